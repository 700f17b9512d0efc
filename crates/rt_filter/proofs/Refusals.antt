-- What a text's parts say of its filter.
use Rattle.std.proofs.Common.{◌≡◌, ℕ, List, Option, Some, None, option_map, refl, sym, ap, ◌∙◌}
use denote.Ref.{Bor}
use Rattle.rt_value.specs.Choice.{◌>>=◌}
use Rattle.rt_filter.specs.declared.filter.Op.{Op}
use Rattle.rt_filter.specs.declared.filter.Filter.{Filter}
use Rattle.rt_filter.specs.Written.{values_of, parts_of, filter_with, filter_of}

abbrev pub Lent : Type 0
Lent = Bor (List ℕ) × Op × Bor (List ℕ)

pub filter_of_none : (text : List ℕ) (r : Option Lent) → option_map (λ p. (p.0.now, p.1, p.2.now)) r ≡ parts_of text → r ≡ None → filter_of text ≡ None
unfolding filter_of
filter_of_none text r h e =
    ap (λ (o : Option (List ℕ × Op × List ℕ)). o >>= filter_with) (sym h ∙ ap (λ (o : Option Lent). option_map (λ p. (p.0.now, p.1, p.2.now)) o) e)

pub filter_of_some : (text : List ℕ) (r : Option Lent) (column : Bor (List ℕ)) (op : Op) (value : Bor (List ℕ)) → option_map (λ p. (p.0.now, p.1, p.2.now)) r ≡ parts_of text
    → r ≡ Some (column, op, value) → filter_of text ≡ filter_with (column.now, op, value.now)
unfolding filter_of
filter_of_some text r column op value h e =
    ap (λ (o : Option (List ℕ × Op × List ℕ)). o >>= filter_with) (sym h ∙ ap (λ (o : Option Lent). option_map (λ p. (p.0.now, p.1, p.2.now)) o) e)

pub with_values : (column : List ℕ) (op : Op) (value : List ℕ) (values : List (List ℕ)) → values_of op value ≡ Some values
    → filter_with (column, op, value) ≡ Some (record { column = column; op = op; values = values })
with_values column op value values h = ap (λ (o : Option (List (List ℕ))). option_map (λ vs. record { column = column; op = op; values = vs }) o) h

pub with_none : (column : List ℕ) (op : Op) (value : List ℕ) → values_of op value ≡ None → filter_with (column, op, value) ≡ None
with_none column op value h = ap (λ (o : Option (List (List ℕ))). option_map (λ vs. record { column = column; op = op; values = vs }) o) h

nothing_under : {A B : Type 0} (f : A → B) (o : Option A) → option_map f o ≡ None → o ≡ None
nothing_under f None h = refl
nothing_under f (Some x) h = absurd (let e : Some (f x) ≡ None = h in cc)

pub none_with : (column : List ℕ) (op : Op) (value : List ℕ) → filter_with (column, op, value) ≡ None → values_of op value ≡ None
none_with column op value h =
    let f : List (List ℕ) → Filter = λ vs. record { column = column; op = op; values = vs } in nothing_under f (values_of op value) h
