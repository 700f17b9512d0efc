-- What a fault of JSON means for the reader of a form.
use Rattle.rt_json.specs.declared.fault.JsonFault.{JsonFault}
use Rattle.rt_json.specs.declared.fault.JsonFault.TheVariants as json
use Rattle.rt_form.specs.declared.fault.FormFault.{FormFault}
use Rattle.rt_form.specs.declared.fault.FormFault.TheVariants as form

abbrev pub of_json : JsonFault → FormFault
of_json (json.Bad at) = form.NotBuilt
of_json (json.TooDeep at) = form.NotBuilt
of_json json.NoMemory = form.NoMemory
