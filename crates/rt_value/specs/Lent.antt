-- Values that are lent.
use Rattle.std.specs.Prelude.{List, map}
use Rattle.rt_value.specs.declared.lent.LentValue.{LentValue}
use Rattle.rt_value.specs.declared.lent.LentValue.TheVariants as lent
use Rattle.rt_value.specs.declared.row.Key.{Key}
use Rattle.rt_value.specs.declared.value.Value.{Value}
use Rattle.rt_value.specs.declared.value.Value.TheVariants as value

-- the value that is lent
abbrev pub value_of : LentValue → Value
value_of lent.Null = value.Null
value_of (lent.Int n) = value.Int n
value_of (lent.Text t) = value.Text t.now
value_of (lent.Bool b) = value.Bool b
value_of (lent.Uuid n) = value.Uuid n
value_of (lent.Moment n) = value.Moment n
value_of lent.Opaque = value.Opaque

-- the key that has them
abbrev pub key_of : List LentValue → Key
key_of lent = record { values = map value_of lent }
