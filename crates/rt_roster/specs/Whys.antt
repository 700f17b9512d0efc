-- Why a binding is refused whose filter has a fault.
use Rattle.std.specs.Prelude.{Option, Some, None}
use Rattle.rt_filter.specs.declared.fault.FilterFault.{FilterFault}
use Rattle.rt_filter.specs.declared.fault.FilterFault.TheVariants as fault
use Rattle.rt_registry.specs.declared.fault.BindingWhy.{BindingWhy}
use Rattle.rt_registry.specs.declared.fault.BindingWhy.TheVariants as why

-- the reason that a filter's fault is; want of memory is none
abbrev pub why_told : FilterFault → Option BindingWhy
why_told fault.NoMemory = None
why_told fault.BadFilter = Some why.Filter
why_told fault.ColumnHidden = Some why.Column
why_told fault.Opaque = Some why.Opaque
why_told (fault.TooMany n) = Some why.TooMany
why_told fault.BadValue = Some why.Value
