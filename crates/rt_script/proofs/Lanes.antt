-- A script has at most 16 lanes, whatever lines were taken; a command that means nothing by itself is a record.
use Rattle.std.proofs.Common.{◌≡◌, ℕ, ◌≤◌, List, Option, Some, None, Result, Ok, Err, refl, subst, arith}
use Rattle.std.specs.Prelude.{nat_le, not, is_some}
use Rattle.rt_value.specs.Choice.{some_if}
use Rattle.rt_json.specs.Machine.{tree_of}
use Rattle.rt_change.specs.declared.change.Bound.{Bound}
use Rattle.rt_change.specs.declared.change.Bound.TheVariants as bound
use Rattle.rt_catalog.specs.declared.catalog.Catalog.{Catalog}
use Rattle.rt_script.specs.declared.fault.LineWhy.{LineWhy}
use Rattle.rt_script.specs.declared.fault.LineWhy.TheVariants as why
use Rattle.rt_script.specs.Commands.{Command, IsInRange}
use Rattle.rt_script.specs.Commands.{workers, capacity, lane, inlet, rows, inputs, max_record_bytes, secret}
use Rattle.rt_script.specs.Commands.{schedule_manual, token, open_, frame, gone, post, wal, poll, tick, stop, take_}
use Rattle.rt_script.specs.Commands.{feed, clock, send, work, push, pop, drain}
use Rattle.rt_script.specs.Reading.{State, start, ◌>>◌, or_why, claims_in, post_in, substituted, token_named, state_after}
use Rattle.rt_script.specs.Reading.{with_bound, Takes, passes, reads, keeps}

abbrev pub HasFewLanes : State → Type 0
HasFewLanes st = st.settings.workers ≤ 16

abbrev Leads : Option (Result State LineWhy) → Type 0
Leads o = (next : State) → o ≡ Some (Ok next) → HasFewLanes next

leads_to : (st : State) → HasFewLanes st → Leads (Some (Ok st))
leads_to st few next e = let same : st ≡ next = cc in subst HasFewLanes same few

refused : (reason : LineWhy) → Leads (Some (Err reason))
refused reason next e = absurd cc

behind : {A : Type 0} (r : Result A LineWhy) (f : A → Result State LineWhy) → ((x : A) → Leads (Some (f x)))
    → Leads (Some (r >> f))
behind (Ok x) f each = each x
behind (Err reason) f each = refused reason

pub command_few : (st : State) (number : ℕ) (k : Command) → HasFewLanes st → IsInRange st.settings k
    → Leads (state_after st number k)
command_few st number (workers n) few (a, b) = leads_to _ b
command_few st number (capacity n) few r = leads_to _ few
command_few st number (lane n) few r = leads_to _ few
command_few st number (inlet n) few r = leads_to _ few
command_few st number (rows n) few r = leads_to _ few
command_few st number (inputs n) few r = leads_to _ few
command_few st number (max_record_bytes n) few r = leads_to _ few
command_few st number (secret text) few r = leads_to _ few
command_few st number schedule_manual few r = leads_to _ few
command_few st number (token name claims) few r =
    behind (or_why why.Claims (tree_of claims)) _ (λ tree.
    behind (or_why why.Token (some_if (not (is_some (token_named st name))) name)) _ (λ free. leads_to _ few))
command_few st number (open_ slot version claims) few r =
    behind (or_why why.Claims (claims_in claims)) _ (λ found. leads_to _ few)
command_few st number (frame slot text) few r =
    behind (or_why why.Token (substituted st text)) _ (λ bytes. leads_to _ few)
command_few st number (gone slot) few r = leads_to _ few
command_few st number (post slot text) few r = behind (post_in slot text) _ (λ i. leads_to _ few)
command_few st number (wal bytes) few r = λ next e. absurd cc
command_few st number poll few r = leads_to _ few
command_few st number (tick moment) few r =
    behind (or_why why.Clock (some_if (nat_le st.clock moment) moment)) _ (λ later. leads_to _ few)
command_few st number stop few r = leads_to _ few
command_few st number (take_ slot) few r = leads_to _ few
command_few st number feed few r = leads_to _ few
command_few st number clock few r = leads_to _ few
command_few st number (send l) few r = leads_to _ few
command_few st number (work l) few r = leads_to _ few
command_few st number (push slot) few r = leads_to _ few
command_few st number (pop slot) few r = leads_to _ few
command_few st number drain few r = leads_to _ few

bound_few : (st : State) (b : Bound) → HasFewLanes st → HasFewLanes (with_bound st b)
bound_few st (bound.Change ch) few = few
bound_few st bound.Skip few = few

pub line_few : (c : Catalog) (st next : State) (number : ℕ) (line : List ℕ) → HasFewLanes st
    → Takes c st number line next → HasFewLanes next
line_few c st next number line few (passes e) = few
line_few c st next number line few (reads {k = k} e is after) = command_few st number k few is.ranges next after
line_few c st next number line few (keeps {b = b} is record_ gives) = bound_few st b few

pub start_few : HasFewLanes start
start_few = omega arith

other : {x : Result State LineWhy} {A : Type 0} → Some x ≡ None → A
other e = absurd cc

-- only a record means nothing by itself
pub only_record : (st : State) (number : ℕ) (k : Command) → state_after st number k ≡ None
    → (bytes : List ℕ) × (k ≡ wal bytes)
only_record st number (wal bytes) e = (bytes, refl)
only_record st number (workers n) e = other e
only_record st number (capacity n) e = other e
only_record st number (lane n) e = other e
only_record st number (inlet n) e = other e
only_record st number (rows n) e = other e
only_record st number (inputs n) e = other e
only_record st number (max_record_bytes n) e = other e
only_record st number (secret text) e = other e
only_record st number schedule_manual e = other e
only_record st number (token name claims) e = other e
only_record st number (open_ slot version claims) e = other e
only_record st number (frame slot text) e = other e
only_record st number (gone slot) e = other e
only_record st number (post slot text) e = other e
only_record st number poll e = other e
only_record st number (tick moment) e = other e
only_record st number stop e = other e
only_record st number (take_ slot) e = other e
only_record st number feed e = other e
only_record st number clock e = other e
only_record st number (send l) e = other e
only_record st number (work l) e = other e
only_record st number (push slot) e = other e
only_record st number (pop slot) e = other e
only_record st number drain e = other e
