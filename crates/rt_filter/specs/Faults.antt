-- Which fault a value's is.
use Rattle.rt_value.specs.declared.reading.ValueFault.{ValueFault}
use Rattle.rt_value.specs.declared.reading.ValueFault.TheVariants as value
use Rattle.rt_filter.specs.declared.fault.FilterFault.{FilterFault}
use Rattle.rt_filter.specs.declared.fault.FilterFault.TheVariants.{NoMemory, BadValue}

abbrev pub fault_of : ValueFault → FilterFault
fault_of value.BadText = BadValue
fault_of value.NoMemory = NoMemory
