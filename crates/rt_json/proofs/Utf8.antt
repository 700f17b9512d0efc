-- A character of several bytes is a first byte and those that may follow it (the table of RFC 3629, section 4).
use Rattle.std.proofs.Common.{◌≡◌, ◌≢◌, ℕ, zero, suc, ◌+◌, ◌-◌, ◌*◌, ◌/◌, ◌<◌, ◌≤◌, true, List, [], ◌∷◌, Option, Some, None, refl, ap, sym, ◌∙◌, subst, arith, ◌⊎◌, inl, inr}
use Rattle.std.specs.Prelude.{◌==◌, ◌&&◌, nat_le, nat_lt, encode_utf8}
use Rattle.std.proofs.lemmas.Bool.{cond_both, eqb-true, eqb-false, ltb-true, ltb-false, leb-true, lt-ltb, le-ltb, le-leb, ne_eqb, and_parts}
use lib.Utf8.{scalar, scalar_cases, low_scalar, next, encode}
use Rattle.rt_json.specs.Machine.{in_tail, lead}
use Rattle.rt_json.specs.declared.bytes.Tail.{Tail}
use Rattle.rt_json.specs.declared.bytes.Tail.TheVariants as tail
use Rattle.rt_json.proofs.ByteTests.{order}

two : (c : ℕ) → 128 ≤ c → c < 2048 → encode c ≡ (192 + c / 64) ∷ next c ∷ []
unfolding encode
two c l h = rw (le-ltb c 128 l, lt-ltb c 2048 h) refl

three : (c : ℕ) → 2048 ≤ c → c < 65536 → encode c ≡ (224 + c / 4096) ∷ next (c / 64) ∷ next c ∷ []
unfolding encode
three c l h = let low : 128 ≤ c = omega arith in rw (le-ltb c 128 low, le-ltb c 2048 l, lt-ltb c 65536 h) refl

four : (c : ℕ) → 65536 ≤ c → encode c ≡ (240 + c / 262144) ∷ next (c / 4096) ∷ next (c / 64) ∷ next c ∷ []
unfolding encode
four c l = let low : 128 ≤ c = omega arith in let middle : 2048 ≤ c = omega arith in rw (le-ltb c 128 low, le-ltb c 2048 middle, le-ltb c 65536 l) refl

high_scalar : (c : ℕ) → 55296 ≤ c → 57344 ≤ c → c < 1114112 → scalar c ≡ true
high_scalar c l m h = rw (le-ltb c 55296 l, le-leb 57344 c m, lt-ltb c 1114112 h) refl

-- the bytes complete a character: one of this kind, and so many more
abbrev pub Fills : Tail → ℕ → List ℕ → Type 0
Fills t k [] = ⊥
Fills t zero (b ∷ bs) = (in_tail t b ≡ true) × (bs ≡ [])
Fills t (suc k) (b ∷ bs) = (in_tail t b ≡ true) × Fills tail.Any k bs

-- what a first byte is
abbrev pub LeadOf : Tail → ℕ → ℕ → Type 0
LeadOf tail.Any zero b = (194 ≤ b) × (b < 224)
LeadOf tail.Any (suc zero) b = (225 ≤ b) × (b < 240) × (b ≢ 237)
LeadOf tail.Any (suc (suc zero)) b = (241 ≤ b) × (b < 244)
LeadOf tail.FromA0 (suc zero) b = b ≡ 224
LeadOf tail.UpTo9F (suc zero) b = b ≡ 237
LeadOf tail.From90 (suc (suc zero)) b = b ≡ 240
LeadOf tail.UpTo8F (suc (suc zero)) b = b ≡ 244
LeadOf _ _ b = ⊥

abbrev IsLead : ℕ → Option (Tail × ℕ) → Type 0
IsLead b None = Unit {0}
IsLead b (Some (t, k)) = LeadOf t k b

lead_is : (b : ℕ) → IsLead b (lead b)
unfolding lead
lead_is b =
    let P : Option (Tail × ℕ) → Type 0 = IsLead b in
    cond_both (nat_lt b 194) _ _ P (λ _. tt) (λ n194. let l194 : 194 ≤ b = ltb-false b 194 n194 in
    cond_both (nat_lt b 224) _ _ P (λ y. (l194, ltb-true b 224 y)) (λ n224. let l224 : 224 ≤ b = ltb-false b 224 n224 in
    cond_both (b == 224) _ _ P (λ y. eqb-true b 224 y) (λ e224. let ne224 : b ≢ 224 = eqb-false b 224 e224 in let l225 : 225 ≤ b = omega arith in
    cond_both (b == 237) _ _ P (λ y. eqb-true b 237 y) (λ e237.
    cond_both (nat_lt b 240) _ _ P (λ y. (l225, ltb-true b 240 y, eqb-false b 237 e237)) (λ n240. let l240 : 240 ≤ b = ltb-false b 240 n240 in
    cond_both (b == 240) _ _ P (λ y. eqb-true b 240 y) (λ e240. let ne240 : b ≢ 240 = eqb-false b 240 e240 in let l241 : 241 ≤ b = omega arith in
    cond_both (nat_lt b 244) _ _ P (λ y. (l241, ltb-true b 244 y)) (λ n244.
    cond_both (b == 244) _ _ P (λ y. eqb-true b 244 y) (λ _. tt))))))))

pub lead_means : (b : ℕ) (t : Tail) (k : ℕ) → lead b ≡ Some (t, k) → LeadOf t k b
lead_means b t k e = subst (IsLead b) e (lead_is b)

-- a byte that may follow
within : (low high b : ℕ) → low ≤ b → b < high → (nat_le low b && nat_lt b high) ≡ true
within low high b l h = rw (le-leb low b l, lt-ltb b high h) refl

range : (low high b : ℕ) → (nat_le low b && nat_lt b high) ≡ true → (low ≤ b) × (b < high)
range low high b h = let t = and_parts (nat_le low b) (nat_lt b high) h in (leb-true low b t.0, ltb-true b high t.1)

-- what a lead of each kind gives
lead_two : (b : ℕ) → 194 ≤ b → b < 224 → lead b ≡ Some (tail.Any, 0)
unfolding lead
lead_two b l h = rw (le-ltb b 194 l, lt-ltb b 224 h) refl

lead_three : (b : ℕ) → 225 ≤ b → b < 240 → b ≢ 237 → lead b ≡ Some (tail.Any, 1)
unfolding lead
lead_three b l h n =
    let a : 194 ≤ b = omega arith in let c : 224 ≤ b = omega arith in let e : b ≢ 224 = omega arith in
    rw (le-ltb b 194 a, le-ltb b 224 c, ne_eqb b 224 e, ne_eqb b 237 n, lt-ltb b 240 h) refl

lead_four : (b : ℕ) → 241 ≤ b → b < 244 → lead b ≡ Some (tail.Any, 2)
unfolding lead
lead_four b l h =
    let a : 194 ≤ b = omega arith in let c : 224 ≤ b = omega arith in let e : b ≢ 224 = omega arith in let f : b ≢ 237 = omega arith in
    let g : 240 ≤ b = omega arith in let i : b ≢ 240 = omega arith in
    rw (le-ltb b 194 a, le-ltb b 224 c, ne_eqb b 224 e, ne_eqb b 237 f, le-ltb b 240 g, ne_eqb b 240 i, lt-ltb b 244 h) refl

lead_at : (b n : ℕ) (r : Option (Tail × ℕ)) → b ≡ n → lead n ≡ r → lead b ≡ r
lead_at b n r e h = ap lead e ∙ h

lead_224 : lead 224 ≡ Some (tail.FromA0, 1)
unfolding lead
lead_224 = refl

lead_237 : lead 237 ≡ Some (tail.UpTo9F, 1)
unfolding lead
lead_237 = refl

lead_240 : lead 240 ≡ Some (tail.From90, 2)
unfolding lead
lead_240 = refl

lead_244 : lead 244 ≡ Some (tail.UpTo8F, 2)
unfolding lead
lead_244 = refl

pub record IsMultibyte (c : ℕ) : Type 0 where
  pub first : ℕ
  pub more : List ℕ
  pub kind : Tail
  pub count : ℕ
  pub bytes : encode_utf8 c ≡ first ∷ more
  pub high : 128 ≤ first
  pub leads : lead first ≡ Some (kind, count)
  pub fills : Fills kind count more

follows : (x : ℕ) → in_tail tail.Any (next x) ≡ true
follows x = within 128 192 (next x) (omega arith) (omega arith)

of_two : (c : ℕ) → 128 ≤ c → c < 2048 → IsMultibyte c
of_two c l h = record {
  first = 192 + c / 64;
  more = next c ∷ [];
  kind = tail.Any;
  count = 0;
  bytes = two c l h;
  high = omega arith;
  leads = lead_two (192 + c / 64) (omega arith) (omega arith);
  fills = (follows c, refl);
}

of_three_by : (c : ℕ) (t : Tail) → 2048 ≤ c → c < 65536 → lead (224 + c / 4096) ≡ Some (t, 1) → in_tail t (next (c / 64)) ≡ true → IsMultibyte c
of_three_by c t l h e i = record {
  first = 224 + c / 4096;
  more = next (c / 64) ∷ next c ∷ [];
  kind = t;
  count = 1;
  bytes = three c l h;
  high = omega arith;
  leads = e;
  fills = (i, (follows c, refl));
}

of_four_by : (c : ℕ) (t : Tail) → 65536 ≤ c → lead (240 + c / 262144) ≡ Some (t, 2) → in_tail t (next (c / 4096)) ≡ true → IsMultibyte c
of_four_by c t l e i = record {
  first = 240 + c / 262144;
  more = next (c / 4096) ∷ next (c / 64) ∷ next c ∷ [];
  kind = t;
  count = 2;
  bytes = four c l;
  high = omega arith;
  leads = e;
  fills = (i, (follows (c / 64), (follows c, refl)));
}

of_three : (c : ℕ) → 2048 ≤ c → c < 65536 → (c < 55296) ⊎ (57344 ≤ c) → IsMultibyte c
of_three c l h s = by (order c 4096) (order c 53248) s
  where
    by : (c < 4096) ⊎ (4096 ≤ c) → (c < 53248) ⊎ (53248 ≤ c) → (c < 55296) ⊎ (57344 ≤ c) → IsMultibyte c
    by (inl x) _ _ = of_three_by c tail.FromA0 l h (lead_at (224 + c / 4096) 224 _ (omega arith) lead_224) (within 160 192 (next (c / 64)) (omega arith) (omega arith))
    by (inr x) (inl y) _ = of_three_by c tail.Any l h (lead_three (224 + c / 4096) (omega arith) (omega arith) (omega arith)) (follows (c / 64))
    by (inr x) (inr y) (inl z) = of_three_by c tail.UpTo9F l h (lead_at (224 + c / 4096) 237 _ (omega arith) lead_237) (within 128 160 (next (c / 64)) (omega arith) (omega arith))
    by (inr x) (inr y) (inr z) = of_three_by c tail.Any l h (lead_three (224 + c / 4096) (omega arith) (omega arith) (omega arith)) (follows (c / 64))

of_four : (c : ℕ) → 65536 ≤ c → c < 1114112 → IsMultibyte c
of_four c l h = by (order c 262144) (order c 1048576)
  where
    by : (c < 262144) ⊎ (262144 ≤ c) → (c < 1048576) ⊎ (1048576 ≤ c) → IsMultibyte c
    by (inl x) _ = of_four_by c tail.From90 l (lead_at (240 + c / 262144) 240 _ (omega arith) lead_240) (within 144 192 (next (c / 4096)) (omega arith) (omega arith))
    by (inr x) (inl y) = of_four_by c tail.Any l (lead_four (240 + c / 262144) (omega arith) (omega arith)) (follows (c / 4096))
    by (inr x) (inr y) = of_four_by c tail.UpTo8F l (lead_at (240 + c / 262144) 244 _ (omega arith) lead_244) (within 128 144 (next (c / 4096)) (omega arith) (omega arith))

pub multibyte : (c : ℕ) → scalar c ≡ true → 128 ≤ c → IsMultibyte c
multibyte c s l = by (order c 2048) (order c 65536) (scalar_cases c s)
  where
    by : (c < 2048) ⊎ (2048 ≤ c) → (c < 65536) ⊎ (65536 ≤ c) → (c < 55296) ⊎ ((57344 ≤ c) × (c < 1114112)) → IsMultibyte c
    by (inl h) _ _ = of_two c l h
    by (inr m) (inl h) (inl k) = of_three c m h (inl k)
    by (inr m) (inl h) (inr k) = of_three c m h (inr k.0)
    by (inr m) (inr n) (inl k) = absurd (omega arith)
    by (inr m) (inr n) (inr k) = of_four c n k.1

-- and back: a first byte and those that may follow it are a character
pub record IsCharacter (b : ℕ) (more : List ℕ) : Type 0 where
  pub char : ℕ
  pub is_scalar : scalar char ≡ true
  pub high : 128 ≤ char
  pub bytes : encode_utf8 char ≡ b ∷ more

to_two : (b x : ℕ) → 194 ≤ b → b < 224 → 128 ≤ x → x < 192 → IsCharacter b (x ∷ [])
to_two b x l h m n =
    let c : ℕ = (b - 192) * 64 + (x - 128) in
    let p : 192 + c / 64 ≡ b = omega arith in
    let q : next c ≡ x = omega arith in
    let low : 128 ≤ c = omega arith in
    let top : c < 2048 = omega arith in record {
      char = c;
      is_scalar = low_scalar c (omega arith);
      high = low;
      bytes = two c low top ∙ ap (λ (y : ℕ). y ∷ next c ∷ []) p ∙ ap (λ (y : ℕ). b ∷ y ∷ []) q;
    }

pub is_a_scalar : (c : ℕ) → c < 1114112 → (c < 55296) ⊎ (57344 ≤ c) → scalar c ≡ true
is_a_scalar c t (inl h) = low_scalar c h
is_a_scalar c t (inr h) = let l : 55296 ≤ c = omega arith in high_scalar c l h t

to_three : (b x y : ℕ) → 224 ≤ b → b < 240 → 128 ≤ x → x < 192 → 128 ≤ y → y < 192 → (b ≡ 224 → 160 ≤ x) → (b ≡ 237 → x < 160) → IsCharacter b (x ∷ y ∷ [])
to_three b x y l h m n o k low237 high237 =
    let c : ℕ = (b - 224) * 4096 + ((x - 128) * 64 + (y - 128)) in
    let p : 224 + c / 4096 ≡ b = omega arith in
    let q : next (c / 64) ≡ x = omega arith in
    let r : next c ≡ y = omega arith in
    let low : 2048 ≤ c = by_low (order b 225) in
    let top : c < 65536 = omega arith in record {
      char = c;
      is_scalar = is_a_scalar c (omega arith) (by_high (order b 237) (order b 238));
      high = omega arith;
      bytes = three c low top ∙ ap (λ (z : ℕ). z ∷ next (c / 64) ∷ next c ∷ []) p ∙ ap (λ (z : ℕ). b ∷ z ∷ next c ∷ []) q ∙ ap (λ (z : ℕ). b ∷ x ∷ z ∷ []) r;
    }
  where
    by_low : (b < 225) ⊎ (225 ≤ b) → 2048 ≤ (b - 224) * 4096 + ((x - 128) * 64 + (y - 128))
    by_low (inl e) = let is : b ≡ 224 = omega arith in let z : 160 ≤ x = low237 is in omega arith
    by_low (inr e) = omega arith

    by_high : (b < 237) ⊎ (237 ≤ b) → (b < 238) ⊎ (238 ≤ b) → ((b - 224) * 4096 + ((x - 128) * 64 + (y - 128)) < 55296) ⊎ (57344 ≤ (b - 224) * 4096 + ((x - 128) * 64 + (y - 128)))
    by_high (inl e) _ = inl (omega arith)
    by_high (inr e) (inl f) = let is : b ≡ 237 = omega arith in let z : x < 160 = high237 is in inl (omega arith)
    by_high (inr e) (inr f) = inr (omega arith)

to_four : (b x y w : ℕ) → 240 ≤ b → b < 245 → 128 ≤ x → x < 192 → 128 ≤ y → y < 192 → 128 ≤ w → w < 192 → (b ≡ 240 → 144 ≤ x) → (b ≡ 244 → x < 144) → IsCharacter b (x ∷ y ∷ w ∷ [])
to_four b x y w l h m n o k i j low240 high244 =
    let c : ℕ = (b - 240) * 262144 + ((x - 128) * 4096 + ((y - 128) * 64 + (w - 128))) in
    let p : 240 + c / 262144 ≡ b = omega arith in
    let q : next (c / 4096) ≡ x = omega arith in
    let r : next (c / 64) ≡ y = omega arith in
    let s : next c ≡ w = omega arith in
    let low : 65536 ≤ c = by_low (order b 241) in
    let top : c < 1114112 = by_high (order b 244) in record {
      char = c;
      is_scalar = is_a_scalar c top (inr (omega arith));
      high = omega arith;
      bytes = four c low ∙ ap (λ (z : ℕ). z ∷ next (c / 4096) ∷ next (c / 64) ∷ next c ∷ []) p ∙ ap (λ (z : ℕ). b ∷ z ∷ next (c / 64) ∷ next c ∷ []) q
          ∙ ap (λ (z : ℕ). b ∷ x ∷ z ∷ next c ∷ []) r ∙ ap (λ (z : ℕ). b ∷ x ∷ y ∷ z ∷ []) s;
    }
  where
    by_low : (b < 241) ⊎ (241 ≤ b) → 65536 ≤ (b - 240) * 262144 + ((x - 128) * 4096 + ((y - 128) * 64 + (w - 128)))
    by_low (inl e) = let is : b ≡ 240 = omega arith in let z : 144 ≤ x = low240 is in omega arith
    by_low (inr e) = omega arith

    by_high : (b < 244) ⊎ (244 ≤ b) → (b - 240) * 262144 + ((x - 128) * 4096 + ((y - 128) * 64 + (w - 128))) < 1114112
    by_high (inl e) = omega arith
    by_high (inr e) = let is : b ≡ 244 = omega arith in let z : x < 144 = high244 is in omega arith

any : (x : ℕ) → in_tail tail.Any x ≡ true → (128 ≤ x) × (x < 192)
any x h = range 128 192 x h

not_at : (b n : ℕ) → b ≢ n → {A : Type 0} → b ≡ n → A
not_at b n h e = absurd (h e)

pub character : (t : Tail) (k : ℕ) (b : ℕ) (more : List ℕ) → LeadOf t k b → Fills t k more → IsCharacter b more
character t zero b (x ∷ xs) l f = go t l f
  where
    go : (t : Tail) → LeadOf t zero b → Fills t zero (x ∷ xs) → IsCharacter b (x ∷ xs)
    go tail.Any l f = let r = any x f.0 in subst (λ (ys : List ℕ). IsCharacter b (x ∷ ys)) (sym f.1) (to_two b x l.0 l.1 r.0 r.1)
    go tail.FromA0 l f = absurd l
    go tail.UpTo9F l f = absurd l
    go tail.From90 l f = absurd l
    go tail.UpTo8F l f = absurd l
character t (suc zero) b (x ∷ y ∷ ys) l f = go t l f
  where
    end : (x y : ℕ) (ys : List ℕ) → ys ≡ [] → IsCharacter b (x ∷ y ∷ []) → IsCharacter b (x ∷ y ∷ ys)
    end x y ys e = subst (λ (zs : List ℕ). IsCharacter b (x ∷ y ∷ zs)) (sym e)

    go : (t : Tail) → LeadOf t (suc zero) b → Fills t (suc zero) (x ∷ y ∷ ys) → IsCharacter b (x ∷ y ∷ ys)
    go tail.Any l f =
        let r = any x f.0 in let s = any y f.1.0 in
        end x y ys f.1.1 (to_three b x y (omega (arith, l.0)) l.1 r.0 r.1 s.0 s.1 (λ e. absurd (omega (arith, e, l.0))) (λ e. absurd (l.2 e)))
    go tail.FromA0 l f =
        let r = range 160 192 x f.0 in let s = any y f.1.0 in
        end x y ys f.1.1 (to_three b x y (omega (arith, l)) (omega (arith, l)) (omega (arith, r.0)) r.1 s.0 s.1 (λ e. r.0) (λ e. absurd (omega (arith, e, l))))
    go tail.UpTo9F l f =
        let r = range 128 160 x f.0 in let s = any y f.1.0 in
        end x y ys f.1.1 (to_three b x y (omega (arith, l)) (omega (arith, l)) r.0 (omega (arith, r.1)) s.0 s.1 (λ e. absurd (omega (arith, e, l))) (λ e. r.1))
    go tail.From90 l f = absurd l
    go tail.UpTo8F l f = absurd l
character t (suc (suc zero)) b (x ∷ y ∷ w ∷ ws) l f = go t l f
  where
    end : (x y w : ℕ) (ws : List ℕ) → ws ≡ [] → IsCharacter b (x ∷ y ∷ w ∷ []) → IsCharacter b (x ∷ y ∷ w ∷ ws)
    end x y w ws e = subst (λ (zs : List ℕ). IsCharacter b (x ∷ y ∷ w ∷ zs)) (sym e)

    go : (t : Tail) → LeadOf t (suc (suc zero)) b → Fills t (suc (suc zero)) (x ∷ y ∷ w ∷ ws) → IsCharacter b (x ∷ y ∷ w ∷ ws)
    go tail.Any l f =
        let r = any x f.0 in let s = any y f.1.0 in let u = any w f.1.1.0 in
        end x y w ws f.1.1.1 (to_four b x y w (omega (arith, l.0)) (omega (arith, l.1)) r.0 r.1 s.0 s.1 u.0 u.1 (λ e. absurd (omega (arith, e, l.0))) (λ e. absurd (omega (arith, e, l.1))))
    go tail.From90 l f =
        let r = range 144 192 x f.0 in let s = any y f.1.0 in let u = any w f.1.1.0 in
        end x y w ws f.1.1.1 (to_four b x y w (omega (arith, l)) (omega (arith, l)) (omega (arith, r.0)) r.1 s.0 s.1 u.0 u.1 (λ e. r.0) (λ e. absurd (omega (arith, e, l))))
    go tail.UpTo8F l f =
        let r = range 128 144 x f.0 in let s = any y f.1.0 in let u = any w f.1.1.0 in
        end x y w ws f.1.1.1 (to_four b x y w (omega (arith, l)) (omega (arith, l)) r.0 (omega (arith, r.1)) s.0 s.1 u.0 u.1 (λ e. absurd (omega (arith, e, l))) (λ e. r.1))
    go tail.FromA0 l f = absurd l
    go tail.UpTo9F l f = absurd l
character t (suc (suc (suc k))) b (x ∷ xs) l f = go t l
  where
    go : (t : Tail) → LeadOf t (suc (suc (suc k))) b → IsCharacter b (x ∷ xs)
    go tail.Any l = absurd l
    go tail.FromA0 l = absurd l
    go tail.UpTo9F l = absurd l
    go tail.From90 l = absurd l
    go tail.UpTo8F l = absurd l
character t zero b [] l f = absurd f
character t (suc k) b [] l f = absurd f
character t (suc zero) b (x ∷ []) l f = absurd f.1
character t (suc (suc zero)) b (x ∷ []) l f = absurd f.1
character t (suc (suc zero)) b (x ∷ y ∷ []) l f = absurd f.1.1
