use Rattle.rt_cluster_script.proofs.OneEnd.{shown_once, refused_once, never_both}
use Rattle.rt_cluster_script.proofs.laws.one_end.Goals as goal

pub returns : goal.returns
returns c = record { shown = shown_once; refused = refused_once; apart = never_both }
