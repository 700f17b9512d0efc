-- What a lane's worker reports of an entry, by its fields alone.
use Rattle.std.specs.Prelude.{◌≡◌, ℕ, List, [], map}
use Rattle.std.specs.List.{flat_map}
use Rattle.rt_catalog.specs.declared.catalog.Catalog.{Catalog}
use Rattle.rt_entry.specs.declared.input.Input.{Input}
use Rattle.rt_entry.specs.declared.input.Settings.{Settings}
use Rattle.rt_entry.specs.declared.entry.Entry.{Entry}
use Rattle.rt_entry.specs.declared.entry.Entry.TheVariants.{Batch, Notice, Opened, Ended, Stop}
use Rattle.rt_entry.specs.Answers.{lane_marks, entry_of}
use Rattle.rt_entry.specs.Audit.{judged_poll, audit_line, audit_lines}

-- the audit's lines of a batch, and of no other entry any
abbrev pub report_of : Catalog → Entry → List ℕ
report_of c (Batch number changes tables subs views) = flat_map (audit_line c)
    (judged_poll c number tables subs changes)
report_of c (Notice slot m) = []
report_of c (Opened slot version) = []
report_of c (Ended slot name) = []
report_of c Stop = []

-- what is reported of a lane's entries is the audit of the journal, for each lane
abbrev pub ReportsAreAudits : Catalog → Settings → Type 0
ReportsAreAudits c s = (journal : List Input) (lane : ℕ)
    → flat_map (report_of c) (map (entry_of c s) (lane_marks c s journal lane)) ≡ audit_lines c s journal
