-- What an expression is at a row, for who asks. Which rows an EXISTS may read is a parameter, the view.
use Rattle.std.specs.Prelude.{◌≡◌, ℕ, Bool, ◌&&◌, if◌then◌else◌, List, [], ◌∷◌, map, Option, Some, None}
use Rattle.std.specs.List.{list_any}
use Rattle.rt_value.specs.declared.value.Value.{Value}
use Rattle.rt_value.specs.declared.value.Value.TheVariants as value
use Rattle.rt_value.specs.declared.row.Row.{Row}
use Rattle.rt_value.specs.declared.claims.Claim.{Claim}
use Rattle.rt_value.specs.declared.claims.Claims.{Claims}
use Rattle.std.specs.Str.{bytes_eq}
use Rattle.rt_policy.specs.declared.judge.Judge.{Judge}
use Rattle.rt_policy.specs.declared.judge.Judge.TheOpen.{Judge-F}
use Rattle.rt_policy.specs.declared.judge.Judge.TheViews.{roll-Judge}
use Rattle.rt_policy.specs.declared.judge.Judge.TheFolds.{fold-Judge, map-Judge}
use Rattle.rt_policy.specs.declared.judge.Truth.{Truth}
use Rattle.rt_policy.specs.declared.caller.Caller.{Caller}
use Rattle.rt_policy.specs.Truth.{truth_in, worth_of_truth, is_true, not_of, all_of, any_of, compared, one_of, is_tested, cell_at, cell_of}

-- who asks
pub record Who : Type 0 where
  pub role : ℕ
  pub bypass : Bool
  pub claims : Claims

abbrev pub who_of : Caller → Who
who_of c = record { role = c.role; bypass = c.bypass; claims = c.claims.now }

-- the rows that an expression is asked of: one of the policy's table, and inside an EXISTS also the one that it reads
pub record Place : Type 0 where
  pub outer : Row
  pub inner : Option Row

-- the rows of each table, and which of them are seen
pub record View : Type 0 where
  pub rows : ℕ → List Row
  pub sees : ℕ → Row → Bool

abbrev pub uuid_or_null : Option ℕ → Value
uuid_or_null None = value.Null
uuid_or_null (Some n) = value.Uuid n

abbrev pub text_or_null : Option (List ℕ) → Value
text_or_null None = value.Null
text_or_null (Some t) = value.Text t

-- the claim of a name, null where there is none
abbrev pub claim_of : List Claim → List ℕ → Value
claim_of [] name = value.Null
claim_of (c ∷ more) name = if bytes_eq c.name name then text_or_null c.value else claim_of more name

-- the row is seen, and the condition is true of it
abbrev pub shows : View → ℕ → Row → (Place → Value) → Row → Bool
shows view table outer condition row = view.sees table row && is_true (truth_in (condition (record { outer = outer; inner = Some row })))

-- one level of an expression, with the value of each part at each place
abbrev pub worth_step : Who → View → Judge-F (Place → Value) → Place → Value
worth_step who view (Judge-F.Literal v) at = v
worth_step who view (Judge-F.Outer n) at = cell_at at.outer n
worth_step who view (Judge-F.Inner n) at = cell_of at.inner n
worth_step who view Judge-F.Uid at = uuid_or_null who.claims.sub
worth_step who view Judge-F.Role at = value.Text who.claims.role
worth_step who view (Judge-F.Claim name) at = claim_of who.claims.members name
worth_step who view (Judge-F.Compare op a b) at = worth_of_truth (compared op (a at) (b at))
worth_step who view (Judge-F.OneOf a all) at = worth_of_truth (one_of (a at) (map (λ j. j at) all))
worth_step who view (Judge-F.Not a) at = worth_of_truth (not_of (truth_in (a at)))
worth_step who view (Judge-F.And all) at = worth_of_truth (all_of (map (λ j. j at) all))
worth_step who view (Judge-F.Or all) at = worth_of_truth (any_of (map (λ j. j at) all))
worth_step who view (Judge-F.Is asked a) at = value.Bool (is_tested asked (a at))
-- true where some row of the table that is seen makes the condition true, else false
worth_step who view (Judge-F.Exists table condition) at = value.Bool (list_any (shows view table at.outer condition) (view.rows table))

-- the value of an expression at a place
abbrev pub worth : Who → View → Judge → Place → Value
worth who view = fold-Judge (Place → Value) (worth_step who view)

-- each expression has the value that its form gives from the values of its parts
abbrev pub IsWorth : Who → View → (Judge → Place → Value) → Type 0
IsWorth who view value = (form : Judge-F Judge) (at : Place) → value (roll-Judge form) at ≡ worth_step who view (map-Judge Judge (Place → Value) value form) at

-- the truth of an expression that is asked of a row
abbrev pub truth : Who → View → Judge → Row → Truth
truth who view judge row = truth_in (worth who view judge (record { outer = row; inner = None }))
