-- What options one after another gave, where they gave a value.
use Rattle.std.proofs.Common.{◌≡◌, Bool, true, false, Option, Some, None, option_map, refl}
use Rattle.rt_value.specs.Choice.{◌>>=◌, some_if}

pub and_then_gives : {A B : Type 0} (o : Option A) (k : A → Option B) (y : B) → (o >>= k) ≡ Some y → (x : A) × (o ≡ Some x) × (k x ≡ Some y)
and_then_gives None k y h = absurd (let e : None ≡ Some y = h in cc)
and_then_gives (Some x) k y h = (x, refl, h)

pub map_gives : {A B : Type 0} (f : A → B) (o : Option A) (y : B) → option_map f o ≡ Some y → (x : A) × (o ≡ Some x) × (f x ≡ y)
map_gives f None y h = absurd (let e : None ≡ Some y = h in cc)
map_gives f (Some x) y h = (x, refl, (let e : Some (f x) ≡ Some y = h in cc))

pub some_if_gives : {A : Type 0} (b : Bool) (x y : A) → some_if b x ≡ Some y → (b ≡ true) × (x ≡ y)
some_if_gives false x y h = absurd (let e : None ≡ Some y = h in cc)
some_if_gives true x y h = (refl, (let e : Some x ≡ Some y = h in cc))

pub none_unless : {A : Type 0} (o : Option A) → ((x : A) → o ≡ Some x → ⊥) → o ≡ None
none_unless None f = refl
none_unless (Some x) f = absurd (f x refl)
