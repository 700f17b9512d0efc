-- The lines in which refusals are told, and what `gen` prints.
use Rattle.std.specs.Prelude.{◌≡◌, ℕ, List, ◌++◌, ◌∷◌, [], codes}
use Rattle.rt_catalog.specs.declared.fault.Why.TheVariants as refusal
use Rattle.rt_catalog.specs.Shown.{line_of, column_of}
use Rattle.rt_script.specs.declared.fault.LineWhy.TheVariants as why
use Rattle.rt_script.specs.Statuses.{Program, replaying, serving, Upshot, catalogue_refused, line_refused, rows_full_at}
use Rattle.rt_script.specs.Statuses.{inputs_spent, inputs_spent_at, usage, status_number, error_text, gen_text}

-- a refusal of a byte of the text
abbrev pub refused_at : List ℕ → ℕ → Upshot
refused_at text at = catalogue_refused (line_of text at) (column_of text at) refusal.Syntax

-- `tabel` is no word of a statement: it stands at the eighth byte
abbrev pub MisspelledIsTold : Type 0
MisspelledIsTold = error_text replaying (refused_at (codes "create tabel t (a int4);") 7) ≡ codes "catalogue: 1:8: syntax"

-- behind a line's end columns begin again; the end of a text is a place too
abbrev pub TextsEndIsTold : Type 0
TextsEndIsTold = error_text replaying (refused_at (codes "create role a;\n  create\n") 24) ≡ codes "catalogue: 3:1: syntax"

abbrev pub SecondLineIsTold : Type 0
SecondLineIsTold = error_text replaying (refused_at (codes "create role a;\n  creat role b;") 17)
    ≡ codes "catalogue: 2:3: syntax"

abbrev pub LimitIsTold : Type 0
LimitIsTold = error_text serving (catalogue_refused 1 1 (refusal.Limit 256)) ≡ codes "catalogue: 1:1: limit 256"

-- a line of a script, and one of a stream
abbrev pub ScriptsLineIsTold : Type 0
ScriptsLineIsTold = error_text replaying (line_refused 2 why.Form) ≡ codes "script: line 2: form"

abbrev pub StreamsLineIsTold : Type 0
StreamsLineIsTold = error_text serving (line_refused 2 why.Record) ≡ codes "stream: line 2: record"

-- a run that found no room
abbrev pub RowsAreTold : Type 0
RowsAreTold = error_text replaying (rows_full_at 4) ≡ codes "rows full: line 4"

abbrev pub InputsAreTold : Type 0
InputsAreTold = (error_text replaying (inputs_spent_at 3) ≡ codes "inputs spent: line 3")
    × (error_text serving inputs_spent ≡ codes "inputs spent") × (status_number (inputs_spent_at 3) ≡ 11)

abbrev pub UsageIsTold : Type 0
UsageIsTold = error_text serving usage ≡ codes "usage: realtime-served CATALOGUE WAL ADDRESS SECRET"

-- the digest of `abc` is that of FIPS 180-4's first example
abbrev pub DigestIsShown : Type 0
DigestIsShown = gen_text 3 (codes "abc")
    ≡ codes "polls 1000 changes 10000 messages 3 sha256 ba7816bf8f01cfea414140de5dae2223b00361a396177a9cb410ff61f20015ad\n"
