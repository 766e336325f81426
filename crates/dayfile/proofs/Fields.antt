-- A field that is read is the field that was written, and what was written is read again.
-- Assumes nothing.
use Rattle.std.proofs.Common.{◌≡◌, ℕ, zero, suc, ◌+◌, ◌^◌, ◌<◌, ◌≤◌, ◌==◌, Bool, true, false, cond, ltb, List, [], ◌∷◌, ◌++◌, length, get_or, take, drop, Option, Some, None, refl, sym, ap, subst, ◌∙◌, append_assoc, arith, inl, inr}
use Rattle.std.specs.Int.{Width, w16, w32, byte_len, from_be_bytes, to_be_bytes}
use Rattle.std.specs.List.{flat_map, AllByRecursion}
use Rattle.std.proofs.lemmas.Bool.Decides.{nat_tests}
use Rattle.std.proofs.lemmas.Bool.{cases_lt, ltb-false, le-ltb}
use Rattle.std.proofs.lemmas.List.{take_at, drop_at, take-append-drop, length-append, length-take, get_or-drop, get_or-take, get_or_past}
use Rattle.std.proofs.lemmas.Nat.{be_bytes_2, be_bytes_4, from_be_bytes-to_be_bytes_2, from_be_bytes-to_be_bytes_4}
use Rattle.digest.specs.declared.value.Digest.{Digest}
use Rattle.dayfile.specs.Entries.{Entry}
use Rattle.dayfile.specs.Form.{entry_bytes}
use Rattle.dayfile.specs.Limits.{IsPath, IsEntry}
use Rattle.dayfile.specs.Reading.{◌>>=◌, bytes_at, number_at, path_at, name_at, many_at, entry_at}

abbrev pub IsBytes : List ℕ → Type 0
IsBytes bytes = (i : ℕ) → get_or bytes i 0 < 256

IsBytes-drop : (n : ℕ) (bytes : List ℕ) → IsBytes bytes → IsBytes (drop n bytes)
IsBytes-drop n bytes h i = rw get_or-drop (h (n + i))

IsBytes-take : (n : ℕ) (bytes : List ℕ) → IsBytes bytes → IsBytes (take n bytes)
IsBytes-take n bytes h i =
    elim (cases_lt i n) [
      | inl lt ↦ rw (get_or-take n bytes i 0 lt) (h i)
      | inr le ↦ rw (get_or_past (take n bytes) i 0 (omega (arith, length-take n bytes))) (omega arith)
    ]

-- the value of a step that did not fail
pub bind_some : {A B : Type 0} (o : Option A) (f : A → Option B) (y : B) → (o >>= f) ≡ Some y → (x : A) × (o ≡ Some x) × (f x ≡ Some y)
bind_some None f y e = absurd cc
bind_some (Some x) f y e = (x, refl, e)

-- a test that did not fail
guard_some : {A : Type 0} (b : Bool) (x y : A) → cond b None (Some x) ≡ Some y → (b ≡ false) × (x ≡ y)
guard_some true x y e = absurd cc
guard_some false x y e = (refl, cc)

abbrev done : {A : Type 0} → A → Option A
done x = Some x

pub some_is : {A : Type 0} (x y : A) → done x ≡ done y → x ≡ y
some_is x y e = cc

-- what was taken from the front
pub record Takes (bytes text rest : List ℕ) : Type 0 where
  pub parts : bytes ≡ text ++ rest
  pub rest_fits : IsBytes rest

pub Takes-then : (a x b y c : List ℕ) → Takes a x b → Takes b y c → Takes a (x ++ y) c
Takes-then a x b y c p q = record { parts = p.parts ∙ ap (λ (t : List ℕ). x ++ t) q.parts ∙ sym (append_assoc x y c); rest_fits = q.rest_fits }

-- bytes

pub bytes_takes : (n : ℕ) (bytes : List ℕ) (x : List ℕ × List ℕ) → IsBytes bytes → bytes_at n bytes ≡ Some x → Takes bytes x.0 x.1 × (length x.0 ≡ n)
bytes_takes n bytes x fits e =
    let g = guard_some (ltb (length bytes) n) (take n bytes, drop n bytes) x e in
    let long : n ≤ length bytes = ltb-false _ _ g.0 in
    subst (λ (p : List ℕ × List ℕ). Takes bytes p.0 p.1 × (length p.0 ≡ n)) g.1 (record { parts = sym (take-append-drop n bytes); rest_fits = IsBytes-drop n bytes fits }, omega (arith, length-take n bytes))

pub bytes_again : (n : ℕ) (text rest : List ℕ) → length text ≡ n → bytes_at n (text ++ rest) ≡ Some (text, rest)
bytes_again n text rest len =
    let long : ltb (length (text ++ rest)) n ≡ false = le-ltb _ _ (omega (arith, length-append text rest)) in
    rw (long, take_at text rest n len, drop_at text rest n len) refl

-- numbers

pub record IsWide (w : Width) (limit : ℕ) : Type 0 where
  pub len : (n : ℕ) → length (to_be_bytes w n) ≡ byte_len w
  pub back : (bytes : List ℕ) → length bytes ≡ byte_len w → IsBytes bytes → to_be_bytes w (from_be_bytes w bytes) ≡ bytes
  pub again : (n : ℕ) → n < limit → from_be_bytes w (to_be_bytes w n) ≡ n

pub wide16 : IsWide w16 (2 ^ 16)
wide16 = record { len = λ n. refl; back = λ bytes len fits. be_bytes_2 bytes _ len fits refl; again = λ n lt. from_be_bytes-to_be_bytes_2 n lt }

pub wide32 : IsWide w32 (2 ^ 32)
wide32 = record { len = λ n. refl; back = λ bytes len fits. be_bytes_4 bytes _ len fits refl; again = λ n lt. from_be_bytes-to_be_bytes_4 n lt }

pub number_takes : (w : Width) (limit : ℕ) (wide : IsWide w limit) (bytes : List ℕ) (x : ℕ × List ℕ) → IsBytes bytes → number_at w bytes ≡ Some x → Takes bytes (to_be_bytes w x.0) x.1
number_takes w limit wide bytes x fits e =
    let front = take (byte_len w) bytes in
    let g = guard_some (ltb (length bytes) (byte_len w)) (from_be_bytes w front, drop (byte_len w) bytes) x e in
    let long : byte_len w ≤ length bytes = ltb-false _ _ g.0 in
    let same : to_be_bytes w (from_be_bytes w front) ≡ front = wide.back front (omega (arith, length-take (byte_len w) bytes)) (IsBytes-take (byte_len w) bytes fits) in
    subst (λ (p : ℕ × List ℕ). Takes bytes (to_be_bytes w p.0) p.1) g.1 (record { parts = rw same (sym (take-append-drop (byte_len w) bytes)); rest_fits = IsBytes-drop (byte_len w) bytes fits })

pub number_again : (w : Width) (limit : ℕ) (wide : IsWide w limit) (n : ℕ) (rest : List ℕ) → n < limit → number_at w (to_be_bytes w n ++ rest) ≡ Some (n, rest)
number_again w limit wide n rest lt =
    let len = wide.len n in
    let long : ltb (length (to_be_bytes w n ++ rest)) (byte_len w) ≡ false = le-ltb _ _ (omega (arith, length-append (to_be_bytes w n) rest)) in
    rw (long, take_at (to_be_bytes w n) rest (byte_len w) len, drop_at (to_be_bytes w n) rest (byte_len w) len, wide.again n lt) refl

-- paths

pub path_takes : (bytes : List ℕ) (x : List ℕ × List ℕ) → IsBytes bytes → path_at bytes ≡ Some x → Takes bytes (length x.0 ∷ x.0) x.1
unfolding path_at
path_takes [] x fits e = absurd cc
path_takes (n ∷ bytes) x fits e =
    let b = bind_some (bytes_at n bytes) (λ p. cond (length p.0 == 0) None (Some p)) x e in
    let g = guard_some (length b.0.0 == 0) b.0 x b.2 in
    let t = bytes_takes n bytes b.0 (λ i. fits (suc i)) b.1 in
    subst (λ (p : List ℕ × List ℕ). Takes (n ∷ bytes) (length p.0 ∷ p.0) p.1) g.1 (record { parts = rw t.1 (ap (λ (r : List ℕ). n ∷ r) t.0.parts); rest_fits = t.0.rest_fits })

pub path_again : (path rest : List ℕ) → IsPath path → path_at (length path ∷ path ++ rest) ≡ Some (path, rest)
unfolding path_at
path_again [] rest is = absurd (omega (arith, is.least))
path_again (b ∷ path) rest is =
    let some : (length (b ∷ path) == 0) ≡ false = grind (arith, nat_tests) in
    rw (bytes_again (length (b ∷ path)) (b ∷ path) rest refl, some) refl

-- names

abbrev pub name_bytes : Digest → List ℕ
name_bytes n = n.bytes

pub name_takes : (bytes : List ℕ) (x : Digest × List ℕ) → IsBytes bytes → name_at bytes ≡ Some x → Takes bytes (name_bytes x.0) x.1
unfolding name_at
name_takes bytes x fits e =
    let b = bind_some (bytes_at 32 bytes) (λ p. Some (record { bytes = p.0 }, p.1)) x e in
    let t = bytes_takes 32 bytes b.0 fits b.1 in
    let made : Digest × List ℕ = (record { bytes = b.0.0 }, b.0.1) in
    subst (λ (p : Digest × List ℕ). Takes bytes (name_bytes p.0) p.1) (some_is made x b.2) t.0

pub name_again : (n : Digest) (rest : List ℕ) → length n.bytes ≡ 32 → name_at (name_bytes n ++ rest) ≡ Some (n, rest)
unfolding name_at
name_again n rest len = rw (bytes_again 32 n.bytes rest len) refl

-- several of the same

module _ {A : Type 0} (one : List ℕ → Option (A × List ℕ)) (text : A → List ℕ) where
  pub many_takes : ((bytes : List ℕ) (x : A × List ℕ) → IsBytes bytes → one bytes ≡ Some x → Takes bytes (text x.0) x.1)
      → (n : ℕ) (bytes : List ℕ) (x : List A × List ℕ) → IsBytes bytes → many_at one n bytes ≡ Some x → Takes bytes (flat_map text x.0) x.1 × (length x.0 ≡ n)
  unfolding many_at
  many_takes takes zero bytes x fits e = subst (λ (y : List A × List ℕ). Takes bytes (flat_map text y.0) y.1 × (length y.0 ≡ 0)) (some_is ([], bytes) x e) (record { parts = refl; rest_fits = fits }, refl)
  many_takes takes (suc n) bytes x fits e =
      let a = bind_some (one bytes) (λ first. many_at one n first.1 >>= λ others. Some (first.0 ∷ others.0, others.1)) x e in
      let b = bind_some (many_at one n a.0.1) (λ others. Some (a.0.0 ∷ others.0, others.1)) x a.2 in
      let first = takes bytes a.0 fits a.1 in
      let second = many_takes takes n a.0.1 b.0 first.rest_fits b.1 in
      let both = Takes-then bytes (text a.0.0) a.0.1 (flat_map text b.0.0) b.0.1 first second.0 in
      let made : List A × List ℕ = (a.0.0 ∷ b.0.0, b.0.1) in
      subst (λ (y : List A × List ℕ). Takes bytes (flat_map text y.0) y.1 × (length y.0 ≡ suc n)) (some_is made x b.2) (both, ap suc second.1)

  pub many_again : (P : A → Type 0) → ((x : A) (rest : List ℕ) → P x → one (text x ++ rest) ≡ Some (x, rest))
      → (xs : List A) (rest : List ℕ) → AllByRecursion P xs → many_at one (length xs) (flat_map text xs ++ rest) ≡ Some (xs, rest)
  unfolding many_at
  many_again P again [] rest h = refl
  many_again P again (x ∷ xs) rest h =
      ap (many_at one (suc (length xs))) (append_assoc (text x) (flat_map text xs) rest) ∙ rw (again x (flat_map text xs ++ rest) h.0, many_again P again xs rest h.1) refl

-- files

-- the parts of a file, one after the other
abbrev tail : Entry → List ℕ
tail e = to_be_bytes w32 e.length ++ (to_be_bytes w16 (length e.pieces) ++ flat_map name_bytes e.pieces)

pub entry_takes : (bytes : List ℕ) (x : Entry × List ℕ) → IsBytes bytes → entry_at bytes ≡ Some x → Takes bytes (entry_bytes x.0) x.1
unfolding entry_at
entry_takes bytes x fits e =
    let a = bind_some (path_at bytes) (λ path. number_at w32 path.1 >>= λ long. number_at w16 long.1 >>= λ count. many_at name_at count.0 count.1 >>= λ names. Some (record { path = path.0; length = long.0; pieces = names.0 }, names.1)) x e in
    let b = bind_some (number_at w32 a.0.1) (λ long. number_at w16 long.1 >>= λ count. many_at name_at count.0 count.1 >>= λ names. Some (record { path = a.0.0; length = long.0; pieces = names.0 }, names.1)) x a.2 in
    let c = bind_some (number_at w16 b.0.1) (λ count. many_at name_at count.0 count.1 >>= λ names. Some (record { path = a.0.0; length = b.0.0; pieces = names.0 }, names.1)) x b.2 in
    let d = bind_some (many_at name_at c.0.0 c.0.1) (λ names. Some (record { path = a.0.0; length = b.0.0; pieces = names.0 }, names.1)) x c.2 in
    let path = path_takes bytes a.0 fits a.1 in
    let long = number_takes w32 (2 ^ 32) wide32 a.0.1 b.0 path.rest_fits b.1 in
    let count = number_takes w16 (2 ^ 16) wide16 b.0.1 c.0 long.rest_fits c.1 in
    let names = many_takes name_at name_bytes name_takes c.0.0 c.0.1 d.0 count.rest_fits d.1 in
    let counted : Takes b.0.1 (to_be_bytes w16 (length d.0.0)) c.0.1 = rw names.1 count in
    let after_count = Takes-then b.0.1 (to_be_bytes w16 (length d.0.0)) c.0.1 (flat_map name_bytes d.0.0) d.0.1 counted names.0 in
    let after_long = Takes-then a.0.1 (to_be_bytes w32 b.0.0) b.0.1 (to_be_bytes w16 (length d.0.0) ++ flat_map name_bytes d.0.0) d.0.1 long after_count in
    let made : Entry × List ℕ = (record { path = a.0.0; length = b.0.0; pieces = d.0.0 }, d.0.1) in
    subst (λ (y : Entry × List ℕ). Takes bytes (entry_bytes y.0) y.1) {x = made} (some_is made x d.2) (Takes-then bytes (length a.0.0 ∷ a.0.0) a.0.1 (tail made.0) d.0.1 path after_long)

pub entry_again : (e : Entry) (rest : List ℕ) → IsEntry e → entry_at (entry_bytes e ++ rest) ≡ Some (e, rest)
unfolding entry_at
entry_again e rest is =
    let names = flat_map name_bytes e.pieces in
    let regrouped : entry_bytes e ++ rest ≡ (length e.path ∷ e.path) ++ (to_be_bytes w32 e.length ++ (to_be_bytes w16 (length e.pieces) ++ (names ++ rest))) = append_assoc (length e.path ∷ e.path) (tail e) rest in
    ap entry_at regrouped
    ∙ rw (
      path_again e.path (to_be_bytes w32 e.length ++ (to_be_bytes w16 (length e.pieces) ++ (names ++ rest))) is.path,
      number_again w32 (2 ^ 32) wide32 e.length (to_be_bytes w16 (length e.pieces) ++ (names ++ rest)) (omega (arith, is.bytes)),
      number_again w16 (2 ^ 16) wide16 (length e.pieces) (names ++ rest) (omega (arith, is.count)),
      many_again name_at name_bytes (λ n. length n.bytes ≡ 32) name_again e.pieces rest is.names,
    ) refl
