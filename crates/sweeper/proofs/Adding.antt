-- Names that are added to a list, and which are in it then.
-- Assumes nothing.
use Rattle.std.proofs.Common.{◌≡◌, ℕ, suc, ◌<◌, ◌⊎◌, inl, inr, ◌∙◌, ◌||◌, true, false, Bool, Decides, List, [], ◌∷◌, length, ap, sym, subst, refl, arith, slice_index_or, Ordering, Less, Equal, Greater}
use Rattle.std.specs.Ordering.{is_eq, match_ordering}
use Rattle.std.proofs.lemmas.Bool.Decides.{Decides-at, Decides-by_or, Decides-or}
use Rattle.std.proofs.lemmas.List.{get_or_default}
use Rattle.digest.specs.declared.value.Digest.{Digest}
use Rattle.store.specs.Memories.{name_cmp}
use Rattle.store.specs.State.{is_in, same_name}
use Rattle.store.proofs.Equality.{names_decide}
use Rattle.sweeper.specs.Looking.{insert}
use Rattle.sweeper.proofs.Reading.{Below}

-- a name at some place of a list
abbrev pub Among : Digest → List Digest → Type 0
Among q ns = Below (length ns) (λ k. q ≡ slice_index_or ns k (record { bytes = [] }))

-- is in it, and no other
pub is_among : (q : Digest) (ns : List Digest) → is_in q ns ≡ true → Among q ns
is_among q ns h =
    let x = (Decides-by_or (same_name q) (λ n. q ≡ n) (is_in q) (names_decide q) refl (λ n ms. refl) ns).0 h in
    (x.0, x.1, x.2 (record { bytes = [] }))

pub is_one_among : (q : Digest) (ns : List Digest) → Among q ns → is_in q ns ≡ true
is_one_among q ns (k, l, e) = (Decides-by_or (same_name q) (λ n. q ≡ n) (is_in q) (names_decide q) refl (λ n ms. refl) ns).1 (k, l, λ d. e ∙ get_or_default ns k _ d l)

-- tests that come to the same
or_swap : (a b c : Bool) → (a || (b || c)) ≡ (b || (a || c))
or_swap true true c = refl
or_swap true false c = refl
or_swap false true c = refl
or_swap false false c = refl

or_twice : (a b : Bool) → (a || (a || b)) ≡ (a || b)
or_twice true b = refl
or_twice false b = refl

-- after one more is added
is_in-insert : (q n : Digest) (ns : List Digest) → is_in q (insert n ns) ≡ (same_name q n || is_in q ns)
is_in-insert q n [] = refl
is_in-insert q n (x ∷ xs) = go (name_cmp n x) refl (is_in-insert q n xs)
  where
    go : (o : Ordering) → name_cmp n x ≡ o → is_in q (insert n xs) ≡ (same_name q n || is_in q xs)
        → is_in q (match_ordering o (n ∷ x ∷ xs) (x ∷ xs) (x ∷ insert n xs)) ≡ (same_name q n || (same_name q x || is_in q xs))
    go Less e h = refl
    go Greater e h = ap (λ b. same_name q x || b) h ∙ or_swap (same_name q x) (same_name q n) (is_in q xs)
    go Equal e h = rw ((names_decide n x).0 (ap is_eq e)) (sym (or_twice (same_name q x) (is_in q xs)))

pub inserted : (q n : Digest) (ns : List Digest) → Decides (is_in q (insert n ns)) ((q ≡ n) ⊎ (is_in q ns ≡ true))
inserted q n ns = Decides-at _ _ (is_in-insert q n ns) (Decides-or _ _ (names_decide q n) (λ e. e, λ e. e))

-- from u to v all names of P were added, and no others
pub record Adds (P : Digest → Type 0) (u v : List Digest) : Type 0 where
  pub all : (q : Digest) → P q → is_in q v ≡ true
  pub keeps : (q : Digest) → is_in q u ≡ true → is_in q v ≡ true
  pub only : (q : Digest) → is_in q v ≡ true → (is_in q u ≡ true) ⊎ P q

-- one was
pub adds_one : (P : Digest → Type 0) (n : Digest) (u : List Digest) → P n → ((q : Digest) → P q → q ≡ n) → Adds P u (insert n u)
adds_one P n u p h =
    record {
      all = λ q x. (inserted q n u).1 (inl (h q x));
      keeps = λ q x. (inserted q n u).1 (inr x);
      only = λ q x. go q ((inserted q n u).0 x);
    }
  where
    go : (q : Digest) → (q ≡ n) ⊎ (is_in q u ≡ true) → (is_in q u ≡ true) ⊎ P q
    go q (inl e) = inr (subst P (sym e) p)
    go q (inr x) = inl x

-- none was, since all were there
pub adds_none : (P : Digest → Type 0) (u : List Digest) → ((q : Digest) → P q → is_in q u ≡ true) → Adds P u u
adds_none P u h = record { all = h; keeps = λ q x. x; only = λ q x. inl x }

-- the same names, in other words
pub adds_like : (P Q : Digest → Type 0) (u v : List Digest) → ((q : Digest) → P q → Q q) → ((q : Digest) → Q q → P q) → Adds P u v → Adds Q u v
adds_like P Q u v to from a =
    record {
      all = λ q x. a.all q (from q x);
      keeps = a.keeps;
      only = λ q x. go q (a.only q x);
    }
  where
    go : (q : Digest) → (is_in q u ≡ true) ⊎ P q → (is_in q u ≡ true) ⊎ Q q
    go q (inl x) = inl x
    go q (inr x) = inr (to q x)

-- first these and then those
pub adds_both : (P Q : Digest → Type 0) (u w v : List Digest) → Adds P u w → Adds Q w v → Adds (λ q. P q ⊎ Q q) u v
adds_both P Q u w v a b =
    record {
      all = λ q x. all q x;
      keeps = λ q x. b.keeps q (a.keeps q x);
      only = λ q x. last q (b.only q x);
    }
  where
    all : (q : Digest) → P q ⊎ Q q → is_in q v ≡ true
    all q (inl x) = b.keeps q (a.all q x)
    all q (inr x) = b.all q x

    first : (q : Digest) → (is_in q u ≡ true) ⊎ P q → (is_in q u ≡ true) ⊎ (P q ⊎ Q q)
    first q (inl x) = inl x
    first q (inr x) = inr (inl x)

    last : (q : Digest) → (is_in q w ≡ true) ⊎ Q q → (is_in q u ≡ true) ⊎ (P q ⊎ Q q)
    last q (inl x) = first q (a.only q x)
    last q (inr x) = inr (inr x)

-- go by go
pub adds_zero : (P : ℕ → Digest → Type 0) (u : List Digest) → Adds (λ q. Below 0 (λ k. P k q)) u u
adds_zero P u = adds_none _ u (λ q x. let l = x.1 in absurd (omega arith))

pub below_more : (P : ℕ → Type 0) (k : ℕ) → Below k P ⊎ P k → Below (suc k) P
below_more P k (inl (j, l, x)) = (j, omega arith, x)
below_more P k (inr x) = (k, omega arith, x)

pub below_less : (P : ℕ → Type 0) (k : ℕ) → Below (suc k) P → Below k P ⊎ P k
below_less P k (j, l, x) = go (grind arith)
  where
    go : (j < k) ⊎ (j ≡ k) → Below k P ⊎ P k
    go (inl i) = inl (j, i, x)
    go (inr e) = inr (subst P e x)

pub adds_more : (P : ℕ → Digest → Type 0) (k : ℕ) (u w v : List Digest) → Adds (λ q. Below k (λ j. P j q)) u w → Adds (P k) w v → Adds (λ q. Below (suc k) (λ j. P j q)) u v
adds_more P k u w v a b = adds_like _ _ u v (λ q. below_more (λ j. P j q) k) (λ q. below_less (λ j. P j q) k) (adds_both _ _ u w v a b)

-- what is so of each below k, and of k, is so of each below the next
pub all_more : (P : ℕ → Type 0) (k : ℕ) → ((j : ℕ) → j < k → P j) → P k → (j : ℕ) → j < suc k → P j
all_more P k f p j l = last (grind arith)
  where
    last : (j < k) ⊎ (j ≡ k) → P j
    last (inl i) = f j i
    last (inr e) = subst P (sym e) p
