-- A frame asks to join or to renew once at most, and last.
use Rattle.std.proofs.Common.{◌≡◌, true, false, List, [], ◌∷◌, ◌++◌, sym, ap, subst, ◌∙◌}
use Rattle.rt_value.proofs.Plain.{AllOf}
use Rattle.rt_channel.specs.declared.effect.Effect.{Effect}
use Rattle.rt_channel.specs.declared.effect.Effect.TheVariants.{End}
use Rattle.rt_channel.specs.Taken.{is_asked}
use Rattle.rt_hub.specs.Taking.{FramesWaitLast}
use Rattle.rt_hub.proofs.Forms.{AtOnce, Form, shuts, done, waits, form_frame}
use Rattle.rt_hub.proofs.Taking.{not_asked}

apart : (e : Effect) → AtOnce e → is_asked e ≡ true → ⊥
apart e a k = let z : true ≡ false = sym k ∙ not_asked e a in cc

middle : (front back : List Effect) (e : Effect) → AllOf AtOnce (front ++ e ∷ back) → AtOnce e
middle [] back e a = a.0
middle (x ∷ front) back e a = middle front back e a.1

none_behind : (front back : List Effect) (e : Effect) → [] ≡ front ++ e ∷ back → ⊥
none_behind [] back e k = cc
none_behind (x ∷ front) back e k = cc

last_one : (ready : List Effect) (z : Effect) (front back : List Effect) (e : Effect) → AllOf AtOnce ready
    → ready ++ z ∷ [] ≡ front ++ e ∷ back → is_asked e ≡ true
    → back ≡ []
last_one [] z [] back e a k w = cc
last_one [] z (x ∷ front) back e a k w =
    let tails : [] ≡ front ++ e ∷ back = cc in absurd (none_behind front back e tails)
last_one (x ∷ ready) z [] back e a k w =
    let same : x ≡ e = cc in absurd (apart x a.0 (ap is_asked same ∙ w))
last_one (x ∷ ready) z (y ∷ front) back e a k w =
    let tails : ready ++ z ∷ [] ≡ front ++ e ∷ back = cc in last_one ready z front back e a.1 tails w

by_form : (es front back : List Effect) (e : Effect) → Form true es → es ≡ front ++ e ∷ back → is_asked e ≡ true
    → back ≡ []
by_form es front back e (shuts ready name a h) k w = last_one ready (End name) front back e a (sym h ∙ k) w
by_form es front back e (done a) k w =
    let P : List Effect → Type 0 = λ xs. AllOf AtOnce xs in absurd (apart e (middle front back e (subst P k a)) w)
by_form es front back e (waits ready z may a i h) k w = last_one ready z front back e a (sym h ∙ k) w

pub frames_wait_last : FramesWaitLast
frames_wait_last secret number moment held bytes front back e k w =
    by_form _ front back e (form_frame secret number moment held bytes) k w
