-- Whatever column, call and EXISTS the grammar has is read.
use Rattle.std.proofs.Common.{◌≡◌, ℕ, Bool, true, false, ◌⊎◌, inl, inr, List, ◌∷◌, codes, Option}
use Rattle.std.proofs.Common.{Some, None, refl, ap, subst, sym, ◌∙◌}
use Rattle.std.specs.Str.{bytes_eq}
use Rattle.rt_value.specs.Places.{ended, reads_on, reads}
use Rattle.rt_sql.specs.declared.lexeme.TokenKind.TheVariants as kind
use Rattle.rt_sql.specs.Lexeme.{Lexeme, IsKeyword, IsSign, kept_name}
use Rattle.rt_policy.specs.Grammar as g
use Rattle.rt_policy.specs.Grammar.{Where, IsAlias, IsTableName, IsSelected, IsCall}
use Rattle.rt_policy.specs.Grammar.{IsNameWithin, IsColumn}
use Rattle.rt_policy.specs.Words.{class_of, is_name}
use Rattle.rt_policy.specs.Parts as p
use Rattle.rt_policy.specs.Machine as m
use Rattle.rt_policy.specs.Machine.{state, given}
use Rattle.rt_policy.specs.Machine.{moved_to, want, step}
use Rattle.rt_policy.proofs.Classes.{means, kind_class, keyword_class, sign_class, name_class}
use Rattle.rt_policy.proofs.Classes.{kept_word}
use Rattle.rt_policy.proofs.FoundParts.{function_keyword}
use Rattle.rt_policy.specs.declared.words.Word.TheVariants as word
use Rattle.rt_policy.specs.declared.words.Sign.TheVariants as sign
use Rattle.rt_policy.specs.declared.words.Class.{Class}
use Rattle.rt_policy.specs.declared.words.Class.TheVariants as class
use Rattle.rt_policy.specs.declared.expr.Selected.{Selected}
use Rattle.rt_policy.specs.declared.expr.Selected.TheVariants as selected
use Rattle.rt_policy.specs.declared.expr.Expr.{Expr}
use Rattle.rt_policy.specs.declared.expr.Expr.TheVariants as expr
use Rattle.rt_policy.specs.declared.part.Wanted.TheVariants as wanted
use Rattle.rt_policy.specs.declared.part.Function.{Function}
use Rattle.rt_policy.specs.declared.part.Function.TheVariants as function
use Rattle.rt_policy.specs.declared.part.Source.{Source}
use Rattle.rt_policy.specs.declared.part.Goal.{Goal}
use Rattle.rt_policy.specs.declared.part.Goal.TheVariants as goal
use Rattle.rt_policy.specs.declared.part.Part.{Part}
use Rattle.rt_policy.specs.declared.part.Part.TheVariants as part
use Rattle.rt_policy.specs.declared.part.Moved.{Moved}
use Rattle.rt_policy.specs.declared.part.Moved.TheVariants as moved
use Rattle.rt_policy.specs.declared.building.Slot.{Slot}
use Rattle.rt_policy.specs.declared.building.Level.{Level}
use Rattle.rt_policy.specs.declared.building.Frame.{Frame}
use Rattle.rt_policy.specs.declared.building.Mode.{Mode}
use Rattle.rt_policy.specs.declared.building.Mode.TheVariants as mode
use Rattle.rt_policy.proofs.Again.{Reads, goes, leads}
use Rattle.rt_policy.proofs.Again.{over_reads, name_over, called_over}
use Rattle.rt_policy.proofs.Again.{by_name_goes}

-- Columns and calls

pub begin_name : (c : Class) (x : Lexeme) (st : List Frame) (l : Level) (s : Slot) → is_name c ≡ true
    → want st l s (Some c) x ≡ m.within st l s (part.At (goal.Named (p.is_auth c) (kept_name x)))
begin_name (class.Word word.And) x st l s h = absurd cc
begin_name (class.Word word.Or) x st l s h = absurd cc
begin_name (class.Word word.Not) x st l s h = absurd cc
begin_name (class.Word word.In) x st l s h = absurd cc
begin_name (class.Word word.Is) x st l s h = absurd cc
begin_name (class.Word word.Null) x st l s h = absurd cc
begin_name (class.Word word.True) x st l s h = absurd cc
begin_name (class.Word word.False) x st l s h = absurd cc
begin_name (class.Word word.Exists) x st l s h = absurd cc
begin_name (class.Word word.Select) x st l s h = absurd cc
begin_name (class.Word word.From) x st l s h = absurd cc
begin_name (class.Word word.Where) x st l s h = absurd cc
begin_name class.Text x st l s h = absurd cc
begin_name class.Number x st l s h = absurd cc
begin_name (class.Compared op) x st l s h = absurd cc
begin_name (class.Sign k) x st l s h = absurd cc
begin_name _ x st l s h = refl

pub name_begins : (name : List ℕ) (x : Lexeme) (xs : List Lexeme) (st : List Frame) (l : Level) (s : Slot) (out : Expr)
    → IsNameWithin name x
    → ((auth : Bool) → Reads xs (state st l (mode.Within s (part.At (goal.Named auth name)))) out)
    → Reads (x ∷ xs) (state st l (mode.Want s)) out
name_begins name x xs st l s out named h =
    goes x (class_of x) xs st l (mode.Want s) out refl
    (ap (reads_on (reads step xs)) (begin_name (class_of x) x st l s (name_class name x named))
    ∙ subst (λ (n : List ℕ). Reads xs (state st l (mode.Within s (part.At (goal.Named (p.is_auth
    (class_of x)) n)))) out) (sym named.0.1) (h (p.is_auth (class_of x))))

-- a name that is a function of `auth` is the function's name
pub called_text : (auth : Bool) (f : Function) (name : List ℕ) (y : Lexeme)
    → p.called auth (p.word_in (class_of y)) ≡ Some f → IsNameWithin name y → p.function_text f ≡ name
called_text true f name y at named =
    let k = function_keyword (class_of y) y f refl at in sym k.1 ∙ sym (kept_word y k.0) ∙ named.0.1
called_text false f name y at named = absurd cc

pub dot_reads : (auth : Bool) (q name : List ℕ) (y : Lexeme) (xs : List Lexeme) (st : List Frame) (l : Level) (s :
    Slot) (out : Expr) → IsNameWithin name y
    → Reads xs (given st l s (expr.Column (Some q) name)) out
    → Reads (y ∷ xs) (state st l (mode.Within s (part.At (goal.Dotted auth q)))) out
dot_reads auth q name y xs st l s out named h = go (p.called auth (p.word_in (class_of y))) refl
  where
    go : (f : Option Function) → p.called auth (p.word_in (class_of y)) ≡ f
        → Reads (y ∷ xs) (state st l (mode.Within s (part.At (goal.Dotted auth q)))) out
    go None at =
        leads (goal.Dotted auth q) y (class_of y) (moved.Done (expr.Column (Some q) name)) xs st l s out refl
        (ap (λ (f : Option Function). p.called_or q f (p.by_name (λ n. moved.Done (expr.Column (Some q) n))
        (p.name_next (Some (class_of y)) y))) at
        ∙ by_name_goes (λ n. moved.Done (expr.Column (Some q) n)) name y named) h
    go (Some f) at =
        leads (goal.Dotted auth q) y (class_of y) (p.at (goal.Called f q)) xs st l s out refl
        (ap (λ (f : Option Function). p.called_or q f (p.by_name (λ n. moved.Done (expr.Column (Some q) n))
        (p.name_next (Some (class_of y)) y))) at)
        (over_reads (goal.Called f q) (expr.Column (Some q) (p.function_text f)) (called_over f q) xs st l s out
        (subst (λ (n : List ℕ). Reads xs (given st l s (expr.Column (Some q) n)) out) (sym
        (called_text auth f name y at named)) h))

pub column_reads : {q : Option (List ℕ)} {name : List ℕ} {xs ys : List Lexeme} → IsColumn q name xs ys
    → (st : List Frame) (l : Level) (s : Slot) (out : Expr)
    → Reads ys (given st l s (expr.Column q name)) out → Reads xs (state st l (mode.Want s)) out
column_reads (g.bare {name = name} {x = x} {xs = xs} named) st l s out h =
    name_begins name x xs st l s out named (λ auth. over_reads (goal.Named auth name) (expr.Column None name)
    (name_over auth name) xs st l s out h)
column_reads (g.qualified {qualifier = q} {name = name} {x = x} {dot = dot} {y = y} {xs =
    xs} first is second) st l s out h =
    name_begins q x (dot ∷ y ∷ xs) st l s out first (λ auth. goes dot (class.Sign sign.Dot) (y ∷ xs) st l
    (mode.Within s (part.At (goal.Named auth q))) out (sign_class (codes ".") dot is)
    (dot_reads auth q name y xs st l s out second h))

-- `auth`, a dot and the function, with SELECT before them or without
abbrev pub behind_function : Bool → Function → List ℕ → Part
behind_function true f q = p.selected_part f
behind_function false f q = part.At (goal.Called f q)

abbrev pub Entered : Bool → Slot → Mode
Entered true s = mode.Within s p.selecting
Entered false s = mode.Want s

pub auth_begins : (selected : Bool) (f : Function) (a dot x : Lexeme) (xs : List Lexeme) (st : List Frame) (l : Level) (s :
    Slot) (out : Expr) → IsKeyword (codes "auth") a → IsSign (codes ".") dot
    → IsKeyword (p.function_text f) x → Reads xs (state st l (mode.Within s (behind_function selected f
    (kept_name a)))) out → Reads (a ∷ dot ∷ x ∷ xs) (state st l (Entered selected s)) out
auth_begins true function.Uid a dot x xs st l s out auth is named h =
    goes a (class.Word word.Auth) (dot ∷ x ∷ xs) st l (mode.Within s p.selecting) out (keyword_class
    (codes "auth") a auth)
    (goes dot (class.Sign sign.Dot) (x ∷ xs) st l (mode.Within s (part.One wanted.Dot goal.SelectedFunction)) out
    (sign_class (codes ".") dot is)
    (goes x (class.Word word.Uid) xs st l (mode.Within s (part.At goal.SelectedFunction)) out (keyword_class
    (codes "uid") x named) h))
auth_begins true function.Role a dot x xs st l s out auth is named h =
    goes a (class.Word word.Auth) (dot ∷ x ∷ xs) st l (mode.Within s p.selecting) out (keyword_class
    (codes "auth") a auth)
    (goes dot (class.Sign sign.Dot) (x ∷ xs) st l (mode.Within s (part.One wanted.Dot goal.SelectedFunction)) out
    (sign_class (codes ".") dot is)
    (goes x (class.Word word.Role) xs st l (mode.Within s (part.At goal.SelectedFunction)) out (keyword_class
    (codes "role") x named) h))
auth_begins true function.Jwt a dot x xs st l s out auth is named h =
    goes a (class.Word word.Auth) (dot ∷ x ∷ xs) st l (mode.Within s p.selecting) out (keyword_class
    (codes "auth") a auth)
    (goes dot (class.Sign sign.Dot) (x ∷ xs) st l (mode.Within s (part.One wanted.Dot goal.SelectedFunction)) out
    (sign_class (codes ".") dot is)
    (goes x (class.Word word.Jwt) xs st l (mode.Within s (part.At goal.SelectedFunction)) out (keyword_class
    (codes "jwt") x named) h))
auth_begins false function.Uid a dot x xs st l s out auth is named h =
    goes a (class.Word word.Auth) (dot ∷ x ∷ xs) st l (mode.Want s) out (keyword_class (codes "auth") a auth)
    (goes dot (class.Sign sign.Dot) (x ∷ xs) st l (mode.Within s (part.At (goal.Named true (kept_name a)))) out
    (sign_class (codes ".") dot is)
    (goes x (class.Word word.Uid) xs st l (mode.Within s (part.At (goal.Dotted true (kept_name a)))) out
    (keyword_class (codes "uid") x named) h))
auth_begins false function.Role a dot x xs st l s out auth is named h =
    goes a (class.Word word.Auth) (dot ∷ x ∷ xs) st l (mode.Want s) out (keyword_class (codes "auth") a auth)
    (goes dot (class.Sign sign.Dot) (x ∷ xs) st l (mode.Within s (part.At (goal.Named true (kept_name a)))) out
    (sign_class (codes ".") dot is)
    (goes x (class.Word word.Role) xs st l (mode.Within s (part.At (goal.Dotted true (kept_name a)))) out
    (keyword_class (codes "role") x named) h))
auth_begins false function.Jwt a dot x xs st l s out auth is named h =
    goes a (class.Word word.Auth) (dot ∷ x ∷ xs) st l (mode.Want s) out (keyword_class (codes "auth") a auth)
    (goes dot (class.Sign sign.Dot) (x ∷ xs) st l (mode.Within s (part.At (goal.Named true (kept_name a)))) out
    (sign_class (codes ".") dot is)
    (goes x (class.Word word.Jwt) xs st l (mode.Within s (part.At (goal.Dotted true (kept_name a)))) out
    (keyword_class (codes "jwt") x named) h))

-- where a claim's name leads
pub claim_reads : (selected : Bool) (name : List ℕ) (x : Lexeme) (xs : List Lexeme) (st : List Frame) (l : Level) (s :
    Slot) (out : Expr) → g.IsText name x
    → reads_on (reads step xs) (moved_to st l s (p.claimed selected (expr.Claim name)) (Some class.Text)) ≡ Some out
    → Reads (x ∷ xs) (state st l (mode.Within s (part.At (goal.ClaimName selected)))) out
claim_reads selected name x xs st l s out (k, same) h =
    goes x class.Text xs st l (mode.Within s (part.At (goal.ClaimName selected))) out (kind_class kind.Text x k)
    (subst (λ (n : List ℕ). reads_on (reads step xs) (moved_to st l s (p.claimed selected (expr.Claim n))
    (Some class.Text)) ≡ Some out) (sym same) h)

pub call_reads : {e : Expr} {xs ys : List Lexeme} → IsCall e xs ys → (st : List Frame) (l : Level) (s : Slot) (out : Expr)
    → Reads ys (given st l s e) out → Reads xs (state st l (mode.Want s)) out
call_reads (g.uid (g.auth {a = a} {dot = dot} {f = f} {left = left} {right = right} {xs =
    xs} auth is named first last)) st l s out h =
    auth_begins false function.Uid a dot f (left ∷ right ∷ xs) st l s out auth is named
    (goes left (class.Sign sign.Open) (right ∷ xs) st l (mode.Within s (part.At (goal.Called function.Uid
    (kept_name a)))) out (sign_class (codes "(") left first)
    (goes right (class.Sign sign.Close) xs st l (mode.Within s (part.One wanted.Close (goal.Whole expr.Uid))) out
    (sign_class (codes ")") right last) h))
call_reads (g.role (g.auth {a = a} {dot = dot} {f = f} {left = left} {right = right} {xs =
    xs} auth is named first last)) st l s out h =
    auth_begins false function.Role a dot f (left ∷ right ∷ xs) st l s out auth is named
    (goes left (class.Sign sign.Open) (right ∷ xs) st l (mode.Within s (part.At (goal.Called function.Role
    (kept_name a)))) out (sign_class (codes "(") left first)
    (goes right (class.Sign sign.Close) xs st l (mode.Within s (part.One wanted.Close (goal.Whole expr.Role))) out
    (sign_class (codes ")") right last) h))
call_reads (g.jwt {name = name} {arrow = arrow} {x = x} {ys = ys} (g.auth {a = a} {dot = dot} {f = f} {left =
    left} {right = right} auth is named first last) arrows text) st l s out h =
    auth_begins false function.Jwt a dot f (left ∷ right ∷ arrow ∷ x ∷ ys) st l s out auth is named
    (goes left (class.Sign sign.Open) (right ∷ arrow ∷ x ∷ ys) st l (mode.Within s (part.At (goal.Called function.Jwt
    (kept_name a)))) out (sign_class (codes "(") left first)
    (goes right (class.Sign sign.Close) (arrow ∷ x ∷ ys) st l (mode.Within s (part.Two wanted.Close wanted.Arrow
    (goal.ClaimName false))) out (sign_class (codes ")") right last)
    (goes arrow (class.Sign sign.Arrow) (x ∷ ys) st l (mode.Within s (part.One wanted.Arrow
    (goal.ClaimName false))) out (sign_class (codes "->>") arrow arrows)
    (claim_reads false name x ys st l s out text h))))

pub selected_call_reads : {e : Expr} {right : Lexeme} {xs ys : List Lexeme} → IsCall e xs (right ∷ ys)
    → IsSign (codes ")") right → (st : List Frame) (l : Level) (s : Slot) (out : Expr)
    → Reads ys (given st l s e) out → Reads xs (state st l (mode.Within s p.selecting)) out
selected_call_reads {right = end} {ys = ys} (g.uid (g.auth {a = a} {dot = dot} {f = f} {left = left} {right =
    right} auth is named first last)) ended st l s out h =
    auth_begins true function.Uid a dot f (left ∷ right ∷ end ∷ ys) st l s out auth is named
    (goes left (class.Sign sign.Open) (right ∷ end ∷ ys) st l (mode.Within s (p.selected_part function.Uid)) out
    (sign_class (codes "(") left first)
    (goes right (class.Sign sign.Close) (end ∷ ys) st l (mode.Within s (part.Two wanted.Close wanted.Close
    (goal.Whole expr.Uid))) out (sign_class (codes ")") right last)
    (goes end (class.Sign sign.Close) ys st l (mode.Within s (part.One wanted.Close (goal.Whole expr.Uid))) out
    (sign_class (codes ")") end ended) h)))
selected_call_reads {right = end} {ys = ys} (g.role (g.auth {a = a} {dot = dot} {f = f} {left = left} {right =
    right} auth is named first last)) ended st l s out h =
    auth_begins true function.Role a dot f (left ∷ right ∷ end ∷ ys) st l s out auth is named
    (goes left (class.Sign sign.Open) (right ∷ end ∷ ys) st l (mode.Within s (p.selected_part function.Role)) out
    (sign_class (codes "(") left first)
    (goes right (class.Sign sign.Close) (end ∷ ys) st l (mode.Within s (part.Two wanted.Close wanted.Close
    (goal.Whole expr.Role))) out (sign_class (codes ")") right last)
    (goes end (class.Sign sign.Close) ys st l (mode.Within s (part.One wanted.Close (goal.Whole expr.Role))) out
    (sign_class (codes ")") end ended) h)))
selected_call_reads {right = end} {ys = ys} (g.jwt {name = name} {arrow = arrow} {x = x} (g.auth {a = a} {dot =
    dot} {f = f} {left = left} {right = right} auth is named first last) arrows text) ended st l s out h =
    auth_begins true function.Jwt a dot f (left ∷ right ∷ arrow ∷ x ∷ end ∷ ys) st l s out auth is named
    (goes left (class.Sign sign.Open) (right ∷ arrow ∷ x ∷ end ∷ ys) st l (mode.Within s
    (p.selected_part function.Jwt)) out (sign_class (codes "(") left first)
    (goes right (class.Sign sign.Close) (arrow ∷ x ∷ end ∷ ys) st l (mode.Within s (part.Two wanted.Close wanted.Arrow
    (goal.ClaimName true))) out (sign_class (codes ")") right last)
    (goes arrow (class.Sign sign.Arrow) (x ∷ end ∷ ys) st l (mode.Within s (part.One wanted.Arrow
    (goal.ClaimName true))) out (sign_class (codes "->>") arrow arrows)
    (claim_reads true name x (end ∷ ys) st l s out text
    (goes end (class.Sign sign.Close) ys st l (mode.Within s (part.One wanted.Close (goal.Whole
    (expr.Claim name)))) out (sign_class (codes ")") end ended) h)))))

-- EXISTS

pub from_reads : (sel : Selected) (x : Lexeme) (xs : List Lexeme) (st : List Frame) (l : Level) (s : Slot) (out : Expr)
    → IsKeyword (codes "from") x
    → Reads xs (state st l (mode.Within s (part.At (goal.Table sel)))) out
    → Reads (x ∷ xs) (state st l (mode.Within s (part.One wanted.From (goal.Table sel)))) out
from_reads sel x xs st l s out is h =
    goes x (class.Word word.From) xs st l (mode.Within s (part.One wanted.From (goal.Table sel))) out (keyword_class
    (codes "from") x is) h

pub selects_name : (c : Class) (x : Lexeme) → is_name c ≡ true
    → p.selects (Some c) x ≡ p.by_name (λ n. p.at (goal.SelectsName n)) (p.name_next (Some c) x)
selects_name class.Number x h = absurd cc
selects_name (class.Sign sign.Star) x h = absurd cc
selects_name _ x h = refl

pub first_selected : (name : List ℕ) (x : Lexeme) (xs : List Lexeme) (st : List Frame) (l : Level) (s : Slot) (out :
    Expr) → IsNameWithin name x
    → Reads xs (state st l (mode.Within s (part.At (goal.SelectsName name)))) out
    → Reads (x ∷ xs) (state st l (mode.Within s (part.At goal.Selects))) out
first_selected name x xs st l s out named h =
    leads goal.Selects x (class_of x) (p.at (goal.SelectsName name)) xs st l s out refl
    (selects_name (class_of x) x (name_class name x named)
    ∙ by_name_goes (λ n. p.at (goal.SelectsName n)) name x named) h

pub selected_reads : {sel : Selected} {from : Lexeme} {xs ys : List Lexeme} → IsSelected sel xs (from ∷ ys)
    → IsKeyword (codes "from") from → (st : List Frame) (l : Level) (s : Slot) (out : Expr)
    → Reads ys (state st l (mode.Within s (part.At (goal.Table sel)))) out
    → Reads xs (state st l (mode.Within s (part.At goal.Selects))) out
selected_reads {from = from} {ys = ys} (g.the_one {x = x} (k, same)) is st l s out h =
    leads goal.Selects x class.Number (p.from selected.One) (from ∷ ys) st l s out (kind_class kind.Number x k)
    (ap (λ (b : List ℕ). p.one_or (bytes_eq b (codes "1")) moved.Bad) same)
    (from_reads selected.One from ys st l s out is h)
selected_reads {from = from} {ys = ys} (g.all_columns {x = x} star) is st l s out h =
    goes x (class.Sign sign.Star) (from ∷ ys) st l (mode.Within s (part.At goal.Selects)) out (sign_class
    (codes "*") x star) (from_reads selected.All from ys st l s out is h)
selected_reads {from = from} {ys = ys} (g.the_column (g.bare {name = name} {x = x} named)) is st l s out h =
    first_selected name x (from ∷ ys) st l s out named
    (goes from (class.Word word.From) ys st l (mode.Within s (part.At (goal.SelectsName name))) out (keyword_class
    (codes "from") from is) h)
selected_reads {from = from} {ys = ys} (g.the_column (g.qualified {qualifier = q} {name = name} {x = x} {dot =
    dot} {y = y} first is_dot second)) is st l s out h =
    first_selected q x (dot ∷ y ∷ from ∷ ys) st l s out first
    (goes dot (class.Sign sign.Dot) (y ∷ from ∷ ys) st l (mode.Within s (part.At (goal.SelectsName q))) out
    (sign_class (codes ".") dot is_dot)
    (leads (goal.SelectsDotted q) y (class_of y) (p.from (selected.Column (Some q) name)) (from ∷ ys) st l s out refl
    (by_name_goes (λ n. p.from (selected.Column (Some q) n)) name y second)
    (from_reads (selected.Column (Some q) name) from ys st l s out is h)))

-- a goal that goes on as one behind a source does
pub record IsSource (q : Goal) (r : Source) : Type 0 where
  pub by_where : (x : Lexeme) → p.goal_moved q (Some (class.Word word.Where)) x ≡ moved.Condition r
  pub by_close : (x : Lexeme) → p.goal_moved q (Some (class.Sign sign.Close)) x ≡ moved.Done (p.exists_of r None)

-- a goal that goes on as one behind a table does
pub record IsTable (q : Goal) (sel : Selected) (schema table : List ℕ) : Type 0 where
  pub source : IsSource q (p.source sel schema table None)
  pub by_name : (c : Class) (x : Lexeme) → is_name c ≡ true
      → p.goal_moved q (Some c) x ≡ p.after_table sel schema table (Some c) x

pub alias_is_table : (sel : Selected) (schema table : List ℕ) → IsTable (goal.Alias sel schema table) sel schema table
alias_is_table sel schema table = record {
  source = record { by_where = λ x. refl; by_close = λ x. refl };
  by_name =
      λ c x h. refl;
}

pub named_is_table : (sel : Selected) (table : List ℕ) → IsTable (goal.TableNamed sel table) sel (codes "public") table
named_is_table sel table = record { source = record { by_where = λ x. refl; by_close = λ x. refl }; by_name = go }
  where
    go : (c : Class) (x : Lexeme) → is_name c ≡ true → p.after_table_name sel table (Some c) x ≡ p.after_table sel
        (codes "public") table (Some c) x
    go (class.Sign k) x h = absurd cc
    go _ x h = refl

pub aliased_is_source : (r : Source) → IsSource (goal.Aliased r) r
aliased_is_source r = record { by_where = λ x. refl; by_close = λ x. refl }

pub as_is_source : (sel : Selected) (schema table : List ℕ)
    → IsSource (goal.As sel schema table) (p.source sel schema table (Some (codes "as")))
as_is_source sel schema table = record { by_where = λ x. refl; by_close = λ x. refl }

pub table_as : (sel : Selected) (schema table name : List ℕ) (c : Class) (x : Lexeme) → is_name c ≡ true
    → (c ≡ class.Word word.As) ⊎ (p.after_table sel schema table (Some c) x ≡ p.alias_or sel schema table
    (p.after_source (p.source sel schema table None) (Some c)) (p.name_next (Some c) x))
table_as sel schema table name (class.Word word.As) x h = inl refl
table_as sel schema table name _ x h = inr refl

-- where an alias leads
pub alias_goes : (sel : Selected) (schema table name : List ℕ) (other : Moved) (x : Lexeme) → IsNameWithin name x
    → p.alias_or sel schema table other (p.name_next (Some (class_of x)) x) ≡ p.at (goal.Aliased
    (p.source sel schema table (Some name)))
alias_goes sel schema table name other x is =
    ap (λ (b : Bool). p.alias_or sel schema table other (p.name_if b x)) (name_class name x is)
    ∙ ap (λ (n : List ℕ). p.at (goal.Aliased (p.source sel schema table (Some n)))) is.0.1

-- the goal behind an alias: of a word `as` that no name follows it is the one behind that word
abbrev pub AliasReads : Goal → Selected → List ℕ → List ℕ → Option (List ℕ) → List Lexeme → List Lexeme → Type 0
AliasReads q sel schema table name xs ys =
    (st : List Frame) (l : Level) (s : Slot) (out : Expr)
    → ((k : Goal) → IsSource k (p.source sel schema table name)
    → Reads ys (state st l (mode.Within s (part.At k))) out) → Reads xs (state st l (mode.Within s (part.At q))) out

-- the word `as` as a name
pub as_is : (name : List ℕ) (x : Lexeme) → class_of x ≡ class.Word word.As → IsNameWithin name x → codes "as" ≡ name
as_is name x is named = let k = means (class.Word word.As) x is in sym k.1 ∙ sym (kept_word x k.0) ∙ named.0.1

pub alias_reads : {name : Option (List ℕ)} {xs ys : List Lexeme} → IsAlias name xs ys
    → (q : Goal) (sel : Selected) (schema table : List ℕ) → IsTable q sel schema table
    → AliasReads q sel schema table name xs ys
alias_reads g.no_alias q sel schema table is st l s out h = h q is.source
alias_reads (g.alias {name = name} {x = x} {xs = xs} named) q sel schema table is st l s out h =
    go (table_as sel schema table name (class_of x) x (name_class name x named))
  where
    go : (class_of x ≡ class.Word word.As) ⊎ (p.after_table sel schema table (Some
        (class_of x)) x ≡ p.alias_or sel schema table (p.after_source (p.source sel schema table None) (Some
        (class_of x))) (p.name_next (Some (class_of x)) x))
        → Reads (x ∷ xs) (state st l (mode.Within s (part.At q))) out
    go (inl same) =
        leads q x (class.Word word.As) (p.at (goal.As sel schema table)) xs st l s out same (is.by_name
        (class.Word word.As) x refl)
        (h (goal.As sel schema table) (subst (λ (n :
        List ℕ). IsSource (goal.As sel schema table) (p.source sel schema table (Some n)))
        (as_is name x same named) (as_is_source sel schema table)))
    go (inr to) =
        leads q x (class_of x) (p.at (goal.Aliased (p.source sel schema table (Some name)))) xs st l s out refl
        (is.by_name (class_of x) x (name_class name x named) ∙ to
        ∙ alias_goes sel schema table name (p.after_source (p.source sel schema table None) (Some
        (class_of x))) x named)
        (h (goal.Aliased (p.source sel schema table (Some name))) (aliased_is_source (p.source sel schema table
        (Some name))))
alias_reads (g.as_alias {name = name} {x = x} {y = y} {xs = xs} word_as named) q sel schema table is st l s out h =
    leads q x (class.Word word.As) (p.at (goal.As sel schema table)) (y ∷ xs) st l s out (keyword_class
    (codes "as") x word_as) (is.by_name (class.Word word.As) x refl)
    (leads (goal.As sel schema table) y (class_of y) (p.at (goal.Aliased (p.source sel schema table
    (Some name)))) xs st l s out refl
    (alias_goes sel schema table name (p.after_source (p.source sel schema table (Some (codes "as"))) (Some
    (class_of y))) y named)
    (h (goal.Aliased (p.source sel schema table (Some name))) (aliased_is_source (p.source sel schema table
    (Some name)))))

pub table_reads : {schema table : List ℕ} {xs ys : List Lexeme} → IsTableName IsNameWithin schema table xs ys
    → (sel : Selected) (st : List Frame) (l : Level) (s : Slot) (out : Expr)
    → ((k : Goal) → IsTable k sel schema table → Reads ys (state st l (mode.Within s (part.At k))) out)
    → Reads xs (state st l (mode.Within s (part.At (goal.Table sel)))) out
table_reads (g.in_public {name = name} {x = x} {xs = xs} named) sel st l s out h =
    leads (goal.Table sel) x (class_of x) (p.at (goal.TableNamed sel name)) xs st l s out refl (by_name_goes
    (λ n. p.at (goal.TableNamed sel n)) name x named)
    (h (goal.TableNamed sel name) (named_is_table sel name))
table_reads (g.in_schema {schema = schema} {name = name} {x = x} {dot = dot} {y = y} {xs =
    xs} first is second) sel st l s out h =
    leads (goal.Table sel) x (class_of x) (p.at (goal.TableNamed sel schema)) (dot ∷ y ∷ xs) st l s out refl
    (by_name_goes (λ n. p.at (goal.TableNamed sel n)) schema x first)
    (goes dot (class.Sign sign.Dot) (y ∷ xs) st l (mode.Within s (part.At (goal.TableNamed sel schema))) out
    (sign_class (codes ".") dot is)
    (leads (goal.TableDotted sel schema) y (class_of y) (p.at (goal.Alias sel schema name)) xs st l s out refl
    (by_name_goes (λ n. p.at (goal.Alias sel schema n)) name y second)
    (h (goal.Alias sel schema name) (alias_is_table sel schema name))))
