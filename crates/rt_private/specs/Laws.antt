-- What the rights of private channels depend on.
use Rattle.std.specs.Prelude.{◌≡◌, ℕ, List, None}
use Rattle.rt_value.specs.declared.claims.Claims.{Claims}
use Rattle.rt_value.specs.declared.row.Row.{Row}
use Rattle.rt_catalog.specs.declared.catalog.Catalog.{Catalog}
use Rattle.rt_private.specs.declared.right.Messages.{Messages}
use Rattle.rt_private.specs.Rights.{Use, messages_of, right, denial}

-- without a messages table nothing is denied, whatever the tables hold
abbrev pub NothingIsJudged : Type 0
NothingIsJudged =
    (c : Catalog) (rows : ℕ → List Row) (role : ℕ) (claims : Claims) (topic : List ℕ) (asked : Use)
    → messages_of c ≡ None → denial c rows role claims topic asked ≡ None

-- tables of the same rows give the same right to the same claims on the same topic
abbrev pub RowsDecide : Type 0
RowsDecide =
    (c : Catalog) (rows other : ℕ → List Row) (m : Messages) (role : ℕ) (claims : Claims) (topic : List ℕ) (asked : Use)
    → ((table : ℕ) → rows table ≡ other table)
    → right c rows m role claims topic asked ≡ right c other m role claims topic asked
