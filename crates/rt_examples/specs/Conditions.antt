-- Conditions of policies: the tokens that write one, what it means, and why others mean nothing.
use Rattle.std.specs.Prelude.{◌≡◌, ℕ, pos, true, false, List, [], ◌∷◌, codes, Option, Some, None, Result, Ok, Err}
use Rattle.rt_sql.specs.declared.lexeme.TokenKind.TheVariants.{Word, Sign, Number}
use Rattle.rt_sql.specs.Lexeme.{Lexeme}
use Rattle.rt_value.specs.declared.value.Kind.{Kind}
use Rattle.rt_value.specs.declared.value.Kind.TheVariants as kind
use Rattle.rt_value.specs.declared.value.Value.TheVariants as value
use Rattle.rt_policy.specs.declared.expr.Literal.TheVariants.{Text, Number as Digits}
use Rattle.rt_policy.specs.declared.expr.Selected.TheVariants.{One}
use Rattle.rt_policy.specs.declared.expr.TypeName.TheVariants.{Named}
use Rattle.rt_policy.specs.declared.fault.ExprFault.{ExprFault}
use Rattle.rt_policy.specs.declared.fault.ExprFault.TheVariants.{UnknownName, BadType}
use Rattle.rt_policy.specs.declared.judge.Comparison.TheVariants.{Equal}
use Rattle.rt_policy.specs.declared.judge.Judge.{Judge}
use Rattle.rt_policy.specs.declared.judge.Judge.TheVariants as judge
use Rattle.rt_policy.specs.declared.judge.Tested.TheVariants.{Unknown}
use Rattle.rt_policy.specs.declared.scope.Scope.{Scope}
use Rattle.rt_policy.specs.declared.scope.ColumnView.{ColumnView}
use Rattle.rt_policy.specs.Grammar.{Written}
use Rattle.rt_policy.specs.Resolution.{resolved}
use Rattle.rt_policy.specs.Sizes.{depth, is_shallow}
use Rattle.rt_examples.specs.Forms.{Form, literal, cast, uid, column, equal, one_of_two, both, is, exists, negations}
use Rattle.rt_examples.specs.Forms.{expr_of}
use Rattle.rt_examples.specs.Policies.{is_shared}

abbrev pub word : List ℕ → Lexeme
word letters = record { kind = Word; bytes = letters }

abbrev pub sign : List ℕ → Lexeme
sign letters = record { kind = Sign; bytes = letters }

abbrev pub own : List ℕ → Form
own name = column None name

abbrev pub of_table : List ℕ → List ℕ → Form
of_table qualifier name = column (Some qualifier) name

abbrev pub exists_one : List ℕ → Option (List ℕ) → Form → Form
exists_one table alias condition = exists One (codes "public") table alias condition

-- exists (select 1 from members m where m.room_id = rooms.id and m.user_id = (select auth.uid()))
abbrev pub members_read : Form
members_read =
    exists_one (codes "members") (Some (codes "m"))
    (both (equal (of_table (codes "m") (codes "room_id")) (of_table (codes "rooms") (codes "id")))
    (equal (of_table (codes "m") (codes "user_id")) uid))

abbrev pub members_read_tokens : List Lexeme
members_read_tokens =
    word (codes "exists") ∷ sign (codes "(") ∷ word (codes "select") ∷ record {
      kind =
          Number;
      bytes = codes "1";
    } ∷ word (codes "from")
    ∷ word (codes "members") ∷ word (codes "m") ∷ word (codes "where") ∷ word (codes "m") ∷ sign (codes ".") ∷ word
    (codes "room_id")
    ∷ sign (codes "=") ∷ word (codes "rooms") ∷ sign (codes ".") ∷ word (codes "id") ∷ word (codes "and") ∷ word
    (codes "m") ∷ sign (codes ".")
    ∷ word (codes "user_id") ∷ sign (codes "=") ∷ sign (codes "(") ∷ word (codes "select") ∷ word (codes "auth") ∷ sign
    (codes ".")
    ∷ word (codes "uid") ∷ sign (codes "(") ∷ sign (codes ")") ∷ sign (codes ")") ∷ sign (codes ")") ∷ []

abbrev pub MembersReadIsWritten : Type 0
MembersReadIsWritten = Written (expr_of members_read) members_read_tokens

abbrev pub column_of : List ℕ → Kind → ColumnView
column_of name kind = record { name = name; kind = kind }

-- rooms (id uuid, title text, meta jsonb, created_at timestamptz) and members (room_id uuid, user_id uuid), with keys
abbrev pub rooms_scope : Scope
rooms_scope = record {
  table = 0;
  tables =
      record {
        schema = codes "public";
        name = codes "rooms";
        columns =
            column_of (codes "id") kind.Uuid ∷ column_of (codes "title") kind.Text ∷ column_of (codes "meta") kind.Json
            ∷ column_of (codes "created_at") kind.Timestamptz ∷ [];
        keyed = true;
      }
      ∷ record {
        schema = codes "public";
        name = codes "members";
        columns = column_of (codes "room_id") kind.Uuid ∷ column_of (codes "user_id") kind.Uuid ∷ [];
        keyed = true;
      } ∷ [];
}

abbrev pub MeansInRooms : Form → Result Judge ExprFault → Type 0
MeansInRooms f result = resolved rooms_scope (expr_of f) ≡ result

abbrev pub MembersReadIsResolved : Type 0
MembersReadIsResolved =
    MeansInRooms members_read
    (Ok (judge.Exists 1 (judge.And (judge.Compare Equal (judge.Inner 0) (judge.Outer 0) ∷ judge.Compare Equal
    (judge.Inner 1) judge.Uid ∷ []))))

-- exists (select 1 from members m where m.room_id = rooms.id), the judge of the run of rooms
abbrev pub shared : Form
shared =
    exists_one (codes "members") (Some (codes "m")) (equal (of_table (codes "m") (codes "room_id")) (of_table
    (codes "rooms") (codes "id")))

abbrev pub SharedIsResolved : Type 0
SharedIsResolved = MeansInRooms shared (Ok is_shared)

-- exists (select 1 from members m where members.room_id = rooms.id)
abbrev pub hidden : Form
hidden =
    exists_one (codes "members") (Some (codes "m")) (equal (of_table (codes "members") (codes "room_id")) (of_table
    (codes "rooms") (codes "id")))

abbrev pub AliasHidesTheName : Type 0
AliasHidesTheName = MeansInRooms hidden (Err UnknownName)

-- notes (id int4, owner uuid, done bool) and tags (note int4, owner uuid), with keys
abbrev pub notes_scope : Scope
notes_scope = record {
  table = 0;
  tables =
      record {
        schema = codes "public";
        name = codes "notes";
        columns =
            column_of (codes "id") kind.Int4 ∷ column_of (codes "owner") kind.Uuid ∷ column_of
            (codes "done") kind.Bool ∷ [];
        keyed = true;
      }
      ∷ record {
        schema = codes "public";
        name = codes "tags";
        columns = column_of (codes "note") kind.Int4 ∷ column_of (codes "owner") kind.Uuid ∷ [];
        keyed = true;
      } ∷ [];
}

abbrev pub MeansInNotes : Form → Result Judge ExprFault → Type 0
MeansInNotes f result = resolved notes_scope (expr_of f) ≡ result

-- exists (select 1 from tags where owner = notes.owner): the first is the inner table's
abbrev pub of_both : Form
of_both = exists_one (codes "tags") None (equal (own (codes "owner")) (of_table (codes "notes") (codes "owner")))

abbrev pub InnerColumnComesFirst : Type 0
InnerColumnComesFirst = MeansInNotes of_both (Ok (judge.Exists 1 (judge.Compare Equal (judge.Inner 1) (judge.Outer 1))))

-- id not in (1, '2')
abbrev pub not_in : Form
not_in = one_of_two true (own (codes "id")) (literal (Digits false (codes "1"))) (literal (Text (codes "2")))

abbrev pub NotInIsNegated : Type 0
NotInIsNegated =
    MeansInNotes not_in (Ok (judge.Not (judge.OneOf (judge.Outer 0) (judge.Literal (value.Int (pos 1)) ∷ judge.Literal
    (value.Int (pos 2)) ∷ []))))

-- id = '..'::int2
abbrev pub cast_of : List ℕ → Form
cast_of digits = equal (own (codes "id")) (cast (Text digits) (Named (codes "int2") false))

abbrev pub CastIsRead : Type 0
CastIsRead =
    MeansInNotes (cast_of (codes "5")) (Ok (judge.Compare Equal (judge.Outer 0) (judge.Literal (value.Int (pos 5)))))

abbrev pub CastOutOfRange : Type 0
CastOutOfRange = MeansInNotes (cast_of (codes "32768")) (Err BadType)

-- done is not unknown
abbrev pub not_unknown : Form
not_unknown = is true Unknown (own (codes "done"))

abbrev pub IsNotUnknown : Type 0
IsNotUnknown = MeansInNotes not_unknown (Ok (judge.Not (judge.Is Unknown (judge.Outer 2))))

-- not .. not done
abbrev pub nots : ℕ → Form
nots n = negations n (own (codes "done"))

-- a depth of 32 and of 33
abbrev pub DepthIsCounted : Type 0
DepthIsCounted =
    (depth (expr_of (nots 31)) ≡ 32) × (is_shallow (expr_of (nots 31)) ≡ true) × (is_shallow (expr_of
    (nots 32)) ≡ false)
