-- What a fault of a part means for the run, and for its status.
use Rattle.rt_io.specs.declared.whole.ReadAllFault.{ReadAllFault}
use Rattle.rt_io.specs.declared.whole.ReadAllFault.TheVariants as reading
use Rattle.rt_cluster_script.specs.declared.fault.ClusterFault.{ClusterFault}
use Rattle.rt_cluster_script.specs.declared.fault.ClusterFault.TheVariants as nodes
use Rattle.rt_form.specs.declared.fault.FormFault.{FormFault}
use Rattle.rt_form.specs.declared.fault.FormFault.TheVariants as form
use Rattle.realtime_replay.specs.declared.fault.RunFault.{RunFault}
use Rattle.realtime_replay.specs.declared.fault.RunFault.TheVariants as f
use Rattle.realtime_replay.specs.declared.status.Status.{Status}
use Rattle.realtime_replay.specs.declared.status.Status.TheVariants as s

abbrev pub of_form : FormFault → RunFault
of_form form.NoMemory = f.NoMemory
of_form form.NotBuilt = f.NotBuilt

abbrev pub of_nodes : ClusterFault → RunFault
of_nodes nodes.NoMemory = f.NoMemory
of_nodes (nodes.Refused line) = f.Refused line

abbrev pub of_reading : ReadAllFault → RunFault
of_reading reading.NoMemory = f.NoMemory
of_reading reading.ReadFault = f.ReadFault
of_reading (reading.TooLong limit) = f.TooLong

abbrev pub status_of : RunFault → Status
status_of f.NoMemory = s.NoMemory
status_of (f.Refused line) = s.Refused line
status_of f.ReadFault = s.ReadFault
status_of f.TooLong = s.TooLong
status_of f.NotBuilt = s.NotBuilt
status_of f.WriteFault = s.WriteFault
