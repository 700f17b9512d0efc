-- The rows whose keys begin with given values stand together, from the first that isn't less on.
use Rattle.std.proofs.Common.{◌≡◌, ◌&&◌, Bool, true, false, cond, List, [], ◌∷◌, Option, Some, None, slice_get, refl, ap, sym, ◌∙◌}
use Rattle.std.specs.Cmp.{alike_right}
use Rattle.std.specs.Cmp.Lexicographic.{slice_cmp}
use Rattle.std.specs.Ordering.{is_eq, is_le, ordering_then}
use Rattle.std.specs.declared.cmp.Ordering.{Ordering}
use Rattle.std.specs.declared.cmp.Ordering.TheVariants.{Less, Equal, Greater}
use Rattle.rt_value.specs.declared.row.Key.{Key}
use Rattle.rt_value.specs.declared.row.Row.{Row}
use Rattle.rt_value.specs.declared.value.Value.{Value}
use Rattle.rt_value.specs.Order.{key_cmp, value_cmp}
use Rattle.rt_value.specs.Prefix.{begins_with, is_with, rows_beginning, is_from, rows_onward, stands_from}
use Rattle.rt_value.specs.Rows.{is_after, is_rising, rows_behind, rows_from}
use Rattle.rt_value.specs.TotalOrder.{key_total, value_total}
use Rattle.rt_value.proofs.KeyOrder.{below_trans, less_from}
use Rattle.rt_value.proofs.Walks.{first_passes, from_next, from_passing}

-- a list that isn't less than p and doesn't begin with it: nothing above it does
module _ (p k m : List Value) (v w x : Value) where
  off_at : (is_le (slice_cmp value_cmp p k) ≡ true → begins_with p k ≡ false → slice_cmp value_cmp k m ≡ Less → begins_with p m ≡ false)
      → (r s : Ordering) → value_cmp v w ≡ r → value_cmp w x ≡ s
      → is_le (ordering_then r (slice_cmp value_cmp p k)) ≡ true → (is_eq r && begins_with p k) ≡ false
      → ordering_then s (slice_cmp value_cmp k m) ≡ Less → (is_eq (value_cmp v x) && begins_with p m) ≡ false
  off_at more Less Less a b onward apart less = ap (λ o. is_eq o && begins_with p m) (value_total.trans v w x a b)
  off_at more Less Equal a b onward apart less = ap (λ o. is_eq o && begins_with p m) (sym (alike_right value_total w x v b) ∙ a)
  off_at more Equal Less a b onward apart less = ap (λ o. is_eq o && begins_with p m) (value_total.congr v w x a ∙ b)
  off_at more Equal Equal a b onward apart less = ap (λ o. is_eq o && begins_with p m) (value_total.congr v w x a ∙ b) ∙ more onward apart less
  off_at more Less Greater a b onward apart less = absurd (cc)
  off_at more Equal Greater a b onward apart less = absurd (cc)
  off_at more Greater s a b onward apart less = absurd (cc)

off : (p k m : List Value) → is_le (slice_cmp value_cmp p k) ≡ true → begins_with p k ≡ false → slice_cmp value_cmp k m ≡ Less
    → begins_with p m ≡ false
off [] k m onward apart less = absurd (cc)
off (v ∷ p) [] m onward apart less = absurd (cc)
off (v ∷ p) (w ∷ k) [] onward apart less = refl
off (v ∷ p) (w ∷ k) (x ∷ m) onward apart less =
    off_at p k m v w x (off p k m) (value_cmp v w) (value_cmp w x) refl refl onward apart less

begun_at : (p k : List Value) (r : Ordering) → (begins_with p k ≡ true → is_le (slice_cmp value_cmp p k) ≡ true)
    → (is_eq r && begins_with p k) ≡ true → is_le (ordering_then r (slice_cmp value_cmp p k)) ≡ true
begun_at p k Less more h = absurd (cc)
begun_at p k Equal more h = more h
begun_at p k Greater more h = absurd (cc)

-- what begins with a list isn't less
begun : (p k : List Value) → begins_with p k ≡ true → is_le (slice_cmp value_cmp p k) ≡ true
begun [] [] h = refl
begun [] (w ∷ k) h = refl
begun (v ∷ p) [] h = absurd (cc)
begun (v ∷ p) (w ∷ k) h = begun_at p k (value_cmp v w) (begun p k) h

abbrev key : List Value → Key
key p = record { values = p }

onward_at : (p : List Value) (x : Row) (xs : List Row) (b c : Bool) → is_from (key p) x ≡ b → is_with p x ≡ c → rows_beginning p (rows_onward (key p) xs) ≡ rows_beginning p xs
    → rows_beginning p (cond b (x ∷ rows_onward (key p) xs) (rows_onward (key p) xs)) ≡ cond c (x ∷ rows_beginning p xs) (rows_beginning p xs)
onward_at p x xs true c f h more = ap (λ b. cond b (x ∷ rows_beginning p (rows_onward (key p) xs)) (rows_beginning p (rows_onward (key p) xs))) h ∙ ap (λ ys. cond c (x ∷ ys) ys) more
onward_at p x xs false true f h more = absurd (let up = begun p x.key.values h in cc)
onward_at p x xs false false f h more = more

-- no row before the first that isn't less begins with them
pub only_onward : (p : List Value) (rows : List Row) → rows_beginning p (rows_onward (key p) rows) ≡ rows_beginning p rows
only_onward p [] = refl
only_onward p (x ∷ xs) = onward_at p x xs (is_from (key p) x) (is_with p x) refl refl (only_onward p xs)

upward_by : (k l m : Key) (r : Ordering) → key_cmp k l ≡ r → is_le r ≡ true → key_cmp l m ≡ Less → is_le (key_cmp k m) ≡ true
upward_by k l m Less a h b = ap is_le (key_total.trans k l m a b)
upward_by k l m Equal a h b = ap is_le (key_total.congr k l m a ∙ b)
upward_by k l m Greater a h b = absurd (cc)

pub upward : (k : Key) (x y : Row) → is_from k x ≡ true → is_after x.key y ≡ true → is_from k y ≡ true
upward k x y a b = upward_by k x.key y.key (key_cmp k x.key) refl a (less_from _ b)

-- the rows with no lesser key are a walk from the first of them
pub onward_walk : (k : Key) (rows : List Row) → is_rising rows ≡ true → rows_onward k rows ≡ rows_from (slice_get (rows_onward k rows) 0) rows
onward_walk k rows h = from_passing (is_from k) (upward k) rows h

stands_at : (k : Key) (o : Option Row) → ((r : Row) → o ≡ Some r → is_from k r ≡ true) → stands_from k o ≡ true
stands_at k None h = refl
stands_at k (Some r) h = h r refl

-- so does the walk stand at first, and behind a row where it stands
pub stands_first : (k : Key) (rows : List Row) → stands_from k (slice_get (rows_onward k rows) 0) ≡ true
stands_first k rows = stands_at k _ (first_passes (is_from k) (upward k) rows)

pub stands_next : (k : Key) (x : Row) (rows : List Row) → is_from k x ≡ true → stands_from k (slice_get (rows_behind x.key rows) 0) ≡ true
stands_next k x rows h = stands_at k _ (λ r e. upward k x r h (first_passes (is_after x.key) (λ y z a b. below_trans x.key y.key z.key a b) rows r e))

none_at : (p : List Value) (r x : Row) (xs : List Row) (b : Bool) → is_after r.key x ≡ b → is_from (key p) r ≡ true → is_with p r ≡ false → rows_beginning p (rows_behind r.key xs) ≡ []
    → rows_beginning p (cond b (x ∷ rows_behind r.key xs) (rows_behind r.key xs)) ≡ []
none_at p r x xs true e onward apart more =
    ap (λ b. cond b (x ∷ rows_beginning p (rows_behind r.key xs)) (rows_beginning p (rows_behind r.key xs))) (off p r.key.values x.key.values onward apart (less_from _ e)) ∙ more
none_at p r x xs false e onward apart more = more

none_behind : (p : List Value) (r : Row) (rows : List Row) → is_from (key p) r ≡ true → is_with p r ≡ false → rows_beginning p (rows_behind r.key rows) ≡ []
none_behind p r [] onward apart = refl
none_behind p r (x ∷ xs) onward apart = none_at p r x xs (is_after r.key x) refl onward apart (none_behind p r xs onward apart)

-- where the walk's row doesn't begin with them, none is left
pub run_ends : (p : List Value) (r : Row) (rows : List Row) → is_from (key p) r ≡ true → is_with p r ≡ false → rows_beginning p (rows_from (Some r) rows) ≡ []
run_ends p r rows onward apart = ap (λ b. cond b (r ∷ rows_beginning p (rows_behind r.key rows)) (rows_beginning p (rows_behind r.key rows))) apart ∙ none_behind p r rows onward apart

-- and where it does, it is the next
pub run_steps : (p : List Value) (r : Row) (rows : List Row) → is_rising rows ≡ true → is_with p r ≡ true
    → rows_beginning p (rows_from (Some r) rows) ≡ r ∷ rows_beginning p (rows_from (slice_get (rows_behind r.key rows) 0) rows)
run_steps p r rows rising here =
    ap (λ b. cond b (r ∷ rows_beginning p (rows_behind r.key rows)) (rows_beginning p (rows_behind r.key rows))) here
    ∙ ap (λ ys. r ∷ rows_beginning p ys) (from_next r.key rows rising)
