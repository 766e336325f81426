-- Bytes that a script gives.
-- Assumes nothing.
use Rattle.std.specs.Prelude.{◌≡◌, ℕ, ◌<◌, ◌⊎◌, List, [], length, replicate, Ok, Err, vec_items, codes, Result}
use Rattle.script.specs.declared.fault.Fault.{Fault}
use Rattle.script.specs.declared.fault.Fault.TheVariants.{WrongForm}
use Rattle.script.specs.declared.message.Message.{Message}
use Rattle.script.specs.declared.message.Message.TheVariants.{Given, Repeated, Random}
use Rattle.script.specs.Generators.{generated}
use Rattle.script.specs.Lines.{first, rest}
use Rattle.script.specs.Numbers.{most_number}
use Rattle.script.specs.Readings.{HexRead, HexBlamed, ByteRead, NumberRead}

-- the bytes that a message stands for
abbrev pub bytes_of : Message → List ℕ
bytes_of (Given v) = vec_items v
bytes_of (Repeated b n) = replicate n b
bytes_of (Random s n) = generated s n

-- the second and third word
abbrev pub second : List ℕ → List ℕ
second l = first (rest l)

abbrev pub third : List ℕ → List ℕ
third l = first (rest (rest l))

-- the word that stands before a byte and a count, and the one before a seed and a count
abbrev pub repeat : List ℕ
repeat = codes "repeat"

abbrev pub random : List ℕ
random = codes "random"

-- one word, other than those
pub record OneWord (l : List ℕ) : Type 0 where
  pub there : 0 < length (first l)
  pub no_repeat : first l ≡ repeat → ⊥
  pub no_random : first l ≡ random → ⊥
  pub alone : second l ≡ []

-- a word, and no more
pub record SoleWord (l : List ℕ) : Type 0 where
  pub there : 0 < length (first l)
  pub alone : second l ≡ []

-- two words
pub record TwoWords (l : List ℕ) : Type 0 where
  pub one : 0 < length (first l)
  pub two : 0 < length (second l)
  pub alone : third l ≡ []

-- three words
pub record ThreeWords (l : List ℕ) : Type 0 where
  pub one : 0 < length (first l)
  pub others : TwoWords (rest l)

-- this word, and two more
pub record Form (name l : List ℕ) : Type 0 where
  pub named : first l ≡ name
  pub words : TwoWords (rest l)

-- neither no word, nor one of those forms
abbrev pub NoForm : List ℕ → Type 0
NoForm l = (0 < length (first l)) × (OneWord l → ⊥) × (Form repeat l → ⊥) × (Form random l → ⊥)

-- what is wrong with two words, the first of them first, where each is read in its way
abbrev pub TwoBlamed : {A B : Type 0} → (List ℕ → Result A Fault → Type 0) → (List ℕ → Result B Fault → Type 0) → List ℕ → Fault → Type 0
TwoBlamed {A} One Other l f = One (first l) (Err f) ⊎ ((x : A) × One (first l) (Ok x) × Other (second l) (Err f))

-- what reading two words may answer: the two values, that there are not two words, or what is wrong with one
abbrev pub TwoRead : {A B : Type 0} → (List ℕ → Result A Fault → Type 0) → (List ℕ → Result B Fault → Type 0) → List ℕ → Result (A × B) Fault → Type 0
TwoRead One Other l (Ok p) = TwoWords l × One (first l) (Ok p.0) × Other (second l) (Ok p.1)
TwoRead One Other l (Err f) = ((f ≡ WrongForm) × (TwoWords l → ⊥)) ⊎ (TwoWords l × TwoBlamed One Other l f)

-- what is wrong with the words of one of those forms
abbrev pub WordsBlamed : List ℕ → Fault → Type 0
WordsBlamed l f = (OneWord l × HexBlamed (first l) f) ⊎ ((Form repeat l × TwoBlamed ByteRead (NumberRead most_number) (rest l) f) ⊎ (Form random l × TwoBlamed (NumberRead most_number) (NumberRead most_number) (rest l) f))

-- why the words after a step's name stand for no bytes
abbrev pub MessageBlamed : List ℕ → Fault → Type 0
MessageBlamed l f = ((f ≡ WrongForm) × NoForm l) ⊎ WordsBlamed l f

-- what the words after a step's name stand for: no bytes, HEX, repeat BYTE COUNT, or random SEED COUNT
abbrev pub MessageRead : List ℕ → Result Message Fault → Type 0
MessageRead l (Ok (Given v)) = ((first l ≡ []) × (vec_items v ≡ [])) ⊎ (OneWord l × HexRead (first l) (Ok v))
MessageRead l (Ok (Repeated b n)) = Form repeat l × ByteRead (second l) (Ok b) × NumberRead most_number (third l) (Ok n)
MessageRead l (Ok (Random s n)) = Form random l × NumberRead most_number (second l) (Ok s) × NumberRead most_number (third l) (Ok n)
MessageRead l (Err f) = MessageBlamed l f
