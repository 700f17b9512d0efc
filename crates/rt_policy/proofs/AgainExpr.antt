-- Whatever expression the grammar has is read.
use Rattle.std.proofs.Common.{◌≡◌, Bool, true, false, List, [], ◌∷◌, ◌++◌, codes, Option}
use Rattle.std.proofs.Common.{Some, None, refl, subst, sym}
use Rattle.rt_value.specs.Places.{reads_on, reads}
use Rattle.rt_sql.specs.Lexeme.{Lexeme, IsSign}
use Rattle.rt_policy.specs.Grammar as g
use Rattle.rt_policy.specs.Grammar.{IsExpr, Ors, IsConjunction, Ands, IsNegation, Related, Items}
use Rattle.rt_policy.specs.Grammar.{IsOperand, Where}
use Rattle.rt_policy.specs.Words.{class_of}
use Rattle.rt_policy.specs.Parts as p
use Rattle.rt_policy.specs.Machine as m
use Rattle.rt_policy.specs.Machine.{To, state, level, fresh, inside, Opens, given, closed, after_conjunction}
use Rattle.rt_policy.specs.Machine.{after_negation, after_test}
use Rattle.rt_policy.specs.Machine.{want, step}
use Rattle.rt_policy.proofs.Classes.{keyword_class, sign_class, comparison_class}
use Rattle.rt_policy.specs.declared.words.Word.TheVariants as word
use Rattle.rt_policy.specs.declared.words.Sign.TheVariants as sign
use Rattle.rt_policy.specs.declared.words.Class.{Class}
use Rattle.rt_policy.specs.declared.words.Class.TheVariants as class
use Rattle.rt_policy.specs.declared.expr.Expr.{Expr}
use Rattle.rt_policy.specs.declared.expr.Expr.TheVariants as expr
use Rattle.rt_policy.specs.declared.part.Wanted.TheVariants as wanted
use Rattle.rt_policy.specs.declared.part.Source.{Source}
use Rattle.rt_policy.specs.declared.part.Goal.{Goal}
use Rattle.rt_policy.specs.declared.part.Goal.TheVariants as goal
use Rattle.rt_policy.specs.declared.part.Part.TheVariants as part
use Rattle.rt_policy.specs.declared.part.Moved.TheVariants as moved
use Rattle.rt_policy.specs.declared.building.Slot.{Slot}
use Rattle.rt_policy.specs.declared.building.Slot.TheVariants as slot
use Rattle.rt_policy.specs.declared.building.Level.{Level}
use Rattle.rt_policy.specs.declared.building.Frame.{Frame}
use Rattle.rt_policy.specs.declared.building.Frame.TheVariants as frame
use Rattle.rt_policy.specs.declared.building.Mode.TheVariants as mode
use Rattle.rt_policy.specs.declared.building.State.{State}
use Rattle.rt_policy.proofs.Again.{Reads, goes, leads, follow, conjunction_closed, negation_closed, opens_test}
use Rattle.rt_policy.proofs.Again.{operand_related, tested_reads, over_reads, constant_over}
use Rattle.rt_policy.proofs.Again.{type_reads, literal_reads}
use Rattle.rt_policy.specs.Machine.{start}
use Rattle.rt_policy.proofs.AgainParts.{column_reads, call_reads, selected_call_reads, selected_reads, IsSource}
use Rattle.rt_policy.proofs.AgainParts.{alias_reads, table_reads}

outside : (b : Bool) (a : To) (go : State → Option Expr) (out : Expr) → b ≡ false → reads_on go a ≡ Some out
    → reads_on go (m.if_inside b a) ≡ Some out
outside true a go out is h = absurd cc
outside false a go out is h = h

-- where a literal's or a call's first token leads from behind a parenthesis, so that it is a group
group_at : (c : Class) (x : Lexeme) (go : State → Option Expr) (st : List Frame) (l : Level) (s : Slot) (out : Expr)
    → reads_on go (want (frame.Group l s ∷ st) fresh slot.First (Some c) x) ≡ Some out
    → reads_on go (m.after_open st l s (Some c) x) ≡ Some out
group_at (class.Word word.Select) x go st l s out h = absurd cc
group_at c x go st l s out h = h

group_reads : (xs : List Lexeme) (st : List Frame) (l : Level) (s : Slot) (out : Expr)
    → Reads xs (state (frame.Group l s ∷ st) fresh (mode.Want slot.First)) out
    → Reads xs (state st l (mode.Opened s)) out
group_reads [] st l s out h = absurd cc
group_reads (x ∷ xs) st l s out h = group_at (class_of x) x (reads step xs) st l s out h

-- a token is answered by its class
at_class : (f : Option Class → To) (x : Lexeme) (c : Class) (xs : List Lexeme) (out : Expr) → class_of x ≡ c
    → reads_on (reads step xs) (f (Some c)) ≡ Some out → follow f (x ∷ xs) ≡ Some out
at_class f x c xs out is h = subst (λ (d : Class). reads_on (reads step xs) (f (Some d)) ≡ Some out) (sym is) h

mutual
  pub expr_reads : {i : Bool} {e : Expr} {xs ys : List Lexeme} → IsExpr i e xs ys → (st : List Frame) (out : Expr)
      → inside st ≡ i → Opens st → follow (closed st e) ys ≡ Some out
      → Reads xs (state st fresh (mode.Want slot.First)) out
  expr_reads (g.ors c more) st out within opens h =
      conjunction_reads c st [] out within opens (ors_reads more st out within opens h)

  ors_reads : {i : Bool} {all : List Expr} {e : Expr} {xs ys : List Lexeme} → Ors i all e xs ys
      → (st : List Frame) (out : Expr)
      → inside st ≡ i → Opens st → follow (closed st e) ys ≡ Some out → follow (after_conjunction st all) xs ≡ Some out
  ors_reads (g.or_end {before = all} {xs = xs}) st out within opens h = conjunction_closed xs st all out h
  ors_reads (g.or_more {before = all} {x = x} {xs = xs} is c more) st out within opens h =
      at_class (after_conjunction st all) x (class.Word word.Or) xs out (keyword_class (codes "or") x is)
      (conjunction_reads c st all out within opens (ors_reads more st out within opens h))

  conjunction_reads : {i : Bool} {c : Expr} {xs ys : List Lexeme} → IsConjunction i c xs ys
      → (st : List Frame) (ors : List Expr) (out : Expr)
      → inside st ≡ i → Opens st → follow (after_conjunction st (ors ++ c ∷ [])) ys ≡ Some out
      → Reads xs (state st (level ors []) (mode.Want slot.First)) out
  conjunction_reads (g.ands {n = n} {ys = ys} first more) st ors out within opens h =
      negation_reads first st (level ors []) out within (opens_test st ors [] n ys out opens
      (ands_reads more st ors out within opens h))

  ands_reads : {i : Bool} {all : List Expr} {c : Expr} {xs ys : List Lexeme} → Ands i all c xs ys
      → (st : List Frame) (ors : List Expr) (out : Expr)
      → inside st ≡ i → Opens st → follow (after_conjunction st (ors ++ c ∷ [])) ys ≡ Some out
      → follow (after_negation st ors all) xs ≡ Some out
  ands_reads (g.and_end {before = all} {xs = xs}) st ors out within opens h = negation_closed xs st ors all out h
  ands_reads (g.and_more {before = all} {n = n} {x = x} {xs = xs} {ys = ys} is first more) st ors out within opens h =
      at_class (after_negation st ors all) x (class.Word word.And) xs out (keyword_class (codes "and") x is)
      (negation_reads first st (level ors all) out within (opens_test st ors all n ys out opens
      (ands_reads more st ors out within opens h)))

  negation_reads : {i : Bool} {n : Expr} {xs ys : List Lexeme} → IsNegation i n xs ys
      → (st : List Frame) (l : Level) (out : Expr)
      → inside st ≡ i → follow (after_test st l n) ys ≡ Some out → Reads xs (state st l (mode.Want slot.First)) out
  negation_reads (g.negated {x = x} {xs = xs} is n) st l out within h =
      goes x (class.Word word.Not) xs st l (mode.Want slot.First) out (keyword_class (codes "not") x is)
      (negation_reads n (frame.Not l ∷ st) fresh out within h)
  negation_reads (g.plain a r t) st l out within h =
      operand_reads a st l slot.First out within (related_reads r st l out within (tested_reads t st l out h))

  related_reads : {i : Bool} {a r : Expr} {xs ys : List Lexeme} → Related i a r xs ys
      → (st : List Frame) (l : Level) (out : Expr)
      → inside st ≡ i → Reads ys (state st l (mode.Related r)) out → Reads xs (state st l (mode.Operand a)) out
  related_reads (g.alone {e = e} {xs = xs}) st l out within h = operand_related xs st l e out h
  related_reads (g.compare {op = op} {a = a} {x = x} {xs = xs} is b) st l out within h =
      goes x (class.Compared op) xs st l (mode.Operand a) out (comparison_class op x is) (operand_reads b st l
      (slot.Right op a) out within h)
  related_reads (g.among {a = a} {x = x} {left = left} {xs = xs} is first b more) st l out within h =
      goes x (class.Word word.In) (left ∷ xs) st l (mode.Operand a) out (keyword_class (codes "in") x is)
      (goes left (class.Sign sign.Open) xs st l (mode.In false a) out (sign_class (codes "(") left first)
      (operand_reads b st l (slot.Item false a []) out within (items_reads more st l false a out within h)))
  related_reads (g.not_among {a = a} {n = n} {x = x} {left = left} {xs = xs} not is first b more) st l out within h =
      goes n (class.Word word.Not) (x ∷ left ∷ xs) st l (mode.Operand a) out (keyword_class (codes "not") n not)
      (goes x (class.Word word.In) (left ∷ xs) st l (mode.NotIn a) out (keyword_class (codes "in") x is)
      (goes left (class.Sign sign.Open) xs st l (mode.In true a) out (sign_class (codes "(") left first)
      (operand_reads b st l (slot.Item true a []) out within (items_reads more st l true a out within h))))

  items_reads : {i : Bool} {items all : List Expr} {xs ys : List Lexeme} → Items i items all xs ys
      → (st : List Frame) (l : Level) (n : Bool) (a : Expr) (out : Expr) → inside st ≡ i
      → Reads ys (state st l (mode.Related (expr.OneOf n a all))) out → Reads xs (state st l (mode.Items n a items)) out
  items_reads (g.item_end {all = all} {right = right} {xs = xs} is) st l n a out within h =
      goes right (class.Sign sign.Close) xs st l (mode.Items n a all) out (sign_class (codes ")") right is) h
  items_reads (g.item_more {before = items} {comma = comma} {xs = xs} is b more) st l n a out within h =
      goes comma (class.Sign sign.Comma) xs st l (mode.Items n a items) out (sign_class (codes ",") comma is)
      (operand_reads b st l (slot.Item n a items) out within (items_reads more st l n a out within h))

  operand_reads : {i : Bool} {v : Expr} {xs ys : List Lexeme} → IsOperand i v xs ys
      → (st : List Frame) (l : Level) (s : Slot) (out : Expr)
      → inside st ≡ i → Reads ys (given st l s v) out → Reads xs (state st l (mode.Want s)) out
  operand_reads (g.constant {l = lit} {ys = ys} is) st l s out within h =
      literal_reads is st l s out (over_reads (goal.Constant lit) (expr.Literal lit)
      (constant_over lit) ys st l s out h)
  operand_reads (g.cast {l = lit} {x = x} {ys = ys} is colons typed) st l s out within h =
      literal_reads is st l s out (goes x (class.Sign sign.Colons) ys st l (mode.Within s (part.At
      (goal.Constant lit))) out (sign_class (codes "::") x colons) (type_reads typed lit st l s out h))
  operand_reads (g.call is) st l s out within h = call_reads is st l s out h
  operand_reads (g.selected_call {left = left} {x = x} {xs = xs} first is called last) st l s out within h =
      goes left (class.Sign sign.Open) (x ∷ xs) st l (mode.Want s) out (sign_class (codes "(") left first)
      (goes x (class.Word word.Select) xs st l (mode.Opened s) out (keyword_class (codes "select") x is)
      (selected_call_reads called last st l s out h))
  operand_reads (g.own_column is) st l s out within h = column_reads is st l s out h
  operand_reads (g.group {e = e} {left = left} {right = right} {xs = xs} {ys =
      ys} first inner last) st l s out within h =
      goes left (class.Sign sign.Open) xs st l (mode.Want s) out (sign_class (codes "(") left first)
      (group_reads xs st l s out (expr_reads inner (frame.Group l s ∷ st) out within tt
      (at_class (closed (frame.Group l s ∷ st) e) right (class.Sign sign.Close) ys out (sign_class
      (codes ")") right last) h)))
  operand_reads (g.exists {s = sel} {schema = schema} {table = table} {name = name} {condition = k} {x = x} {left =
      left} {select = select} {xs = xs} {us = us} {vs =
      vs} is first selects chosen from named alias inner last) st l s out within h =
      goes x (class.Word word.Exists) (left ∷ select ∷ xs) st l (mode.Want s) out (keyword_class (codes "exists") x is)
      (outside (inside st) (m.within st l s p.existing) (reads step (left ∷ select ∷ xs)) out within
      (goes left (class.Sign sign.Open) (select ∷ xs) st l (mode.Within s p.existing) out (sign_class
      (codes "(") left first)
      (goes select (class.Word word.Select) xs st l (mode.Within s (part.One wanted.Select goal.Selects)) out
      (keyword_class (codes "select") select selects)
      (selected_reads chosen from st l s out
      (table_reads named sel st l s out (λ q is_table. alias_reads alias q sel schema table is_table st l s out
      (λ d is_source. where_reads inner d (p.source sel schema table name) is_source last st l s out within h)))))))

  where_reads : {k : Option Expr} {right : Lexeme} {us vs : List Lexeme} → Where k us (right ∷ vs)
      → (q : Goal) (r : Source) → IsSource q r → IsSign (codes ")") right
      → (st : List Frame) (l : Level) (s : Slot) (out : Expr) → inside st ≡ false
      → Reads vs (given st l s (p.exists_of r k)) out → Reads us (state st l (mode.Within s (part.At q))) out
  where_reads {right = right} {vs = vs} g.no_where q r is last st l s out within h =
      leads q right (class.Sign sign.Close) (moved.Done (p.exists_of r None)) vs st l s out (sign_class
      (codes ")") right last) (is.by_close right) h
  where_reads {right = right} {vs = vs} (g.where_ {e = e} {x = x} {xs =
      xs} where_ inner) q r is last st l s out within h =
      leads q x (class.Word word.Where) (moved.Condition r) xs st l s out (keyword_class (codes "where") x where_)
      (is.by_where x)
      (outside (inside st) (m.wanting (frame.Where l s r ∷ st) fresh slot.First) (reads step xs) out within
      (expr_reads inner (frame.Where l s r ∷ st) out refl tt
      (at_class (closed (frame.Where l s r ∷ st) e) right (class.Sign sign.Close) vs out (sign_class
      (codes ")") right last) h)))

pub written_reads : (xs : List Lexeme) (e : Expr) → g.Written e xs → reads step xs start ≡ Some e
written_reads xs e h = expr_reads h [] e refl tt refl
