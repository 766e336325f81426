-- The steps that a script has.
-- Assumes nothing.
use Rattle.std.specs.Prelude.{◌≡◌, ℕ, ◌<◌, ◌⊎◌, List, [], length, Some, None, Ok, Err, string_bytes, Option, Result, Vec, vec_items, slice_index}
use Rattle.std.specs.declared.alloc.Global.{Global}
use Rattle.script.specs.declared.fault.Fault.{Fault}
use Rattle.script.specs.declared.fault.Fault.TheVariants.{NoMemory, UnknownStep}
use Rattle.script.specs.declared.message.Message.{Message}
use Rattle.script.specs.Lines.{first, rest}
use Rattle.script.specs.Messages.{MessageRead, SoleWord, ThreeWords, TwoWords, second, third}
use Rattle.script.specs.Numbers.{most_in_store}
use Rattle.script.specs.Quotes.{quotation}
use Rattle.script.specs.Readings.{NumberRead}
use Rattle.store.specs.declared.piece.Spot.TheVariants as spot
use Rattle.rehearsal.specs.declared.name.StepName.{StepName}
use Rattle.rehearsal.specs.declared.name.StepName.TheVariants as name
use Rattle.rehearsal.specs.declared.step.Act.TheVariants as act
use Rattle.rehearsal.specs.declared.step.Move.TheVariants as move
use Rattle.rehearsal.specs.declared.step.Step.{Step}
use Rattle.rehearsal.specs.declared.step.Step.TheVariants as step
use Rattle.rehearsal.specs.Names.{NoName, Wrong, name_text}

-- nothing is to do: there is no word, or the first one begins with #
abbrev pub Passes : List ℕ → Type 0
Passes l = (first l ≡ []) ⊎ ((0 < length (first l)) × (slice_index (first l) 0 ≡ 35))

-- a word is the number of a machine, of a day or of a byte, or how many bytes
abbrev pub NumberWord : List ℕ → Result ℕ Fault → Type 0
NumberWord w r = NumberRead most_in_store w r

-- the words of a step that has a machine, and no more
abbrev pub OfMachine : StepName → List ℕ → Result ℕ Fault → Type 0
OfMachine n w (Ok m) = SoleWord w × NumberWord (first w) (Ok m)
OfMachine n w (Err f) = ((SoleWord w → ⊥) × Wrong n f) ⊎ (SoleWord w × NumberWord (first w) (Err f))

-- a number, and then bytes
abbrev pub BytesBehind : StepName → List ℕ → Result (ℕ × Message) Fault → Type 0
BytesBehind n w (Ok p) = (0 < length (first w)) × NumberWord (first w) (Ok p.0) × MessageRead (rest w) (Ok p.1)
BytesBehind n w (Err f) =
    ((first w ≡ []) × Wrong n f)
    ⊎ ((0 < length (first w)) × (NumberWord (first w) (Err f) ⊎ ((m : ℕ) × NumberWord (first w) (Ok m) × MessageRead (rest w) (Err f))))

-- a path as it stands, for which there may be no memory, and then bytes
abbrev pub PathRead : List ℕ → List ℕ → Result (Vec ℕ Global × Message) Fault → Type 0
PathRead path w (Ok p) = (vec_items p.0 ≡ path) × MessageRead w (Ok p.1)
PathRead path w (Err f) = (f ≡ NoMemory) ⊎ MessageRead w (Err f)

-- the words of `file`: a machine, a path, and then bytes
abbrev pub FileWords : List ℕ → Result (ℕ × Vec ℕ Global × Message) Fault → Type 0
FileWords w (Ok p) = (0 < length (first w)) × (0 < length (second w)) × NumberWord (first w) (Ok p.0) × PathRead (second w) (rest (rest w)) (Ok (p.1, p.2))
FileWords w (Err f) =
    (((first w ≡ []) ⊎ (second w ≡ [])) × Wrong name.File f)
    ⊎ ((0 < length (first w)) × (0 < length (second w))
    × (NumberWord (first w) (Err f) ⊎ ((m : ℕ) × NumberWord (first w) (Ok m) × PathRead (second w) (rest (rest w)) (Err f))))

-- the numbers that two words are, or what is wrong with one, the first of them first
abbrev pub PairRead : List ℕ → List ℕ → Result (ℕ × ℕ) Fault → Type 0
PairRead v w (Ok p) = NumberWord v (Ok p.0) × NumberWord w (Ok p.1)
PairRead v w (Err f) = NumberWord v (Err f) ⊎ ((m : ℕ) × NumberWord v (Ok m) × NumberWord w (Err f))

-- two numbers, and no more
abbrev pub TwoNumbers : StepName → List ℕ → Result (ℕ × ℕ) Fault → Type 0
TwoNumbers n w (Ok p) = TwoWords w × PairRead (first w) (second w) (Ok p)
TwoNumbers n w (Err f) = ((TwoWords w → ⊥) × Wrong n f) ⊎ (TwoWords w × PairRead (first w) (second w) (Err f))

-- three numbers, and no more
abbrev pub ThreeNumbers : StepName → List ℕ → Result (ℕ × ℕ × ℕ) Fault → Type 0
ThreeNumbers n w (Ok p) = ThreeWords w × PairRead (first w) (second w) (Ok (p.0, p.1)) × NumberWord (third w) (Ok p.2)
ThreeNumbers n w (Err f) =
    ((ThreeWords w → ⊥) × Wrong n f)
    ⊎ (ThreeWords w × (PairRead (first w) (second w) (Err f) ⊎ ((p : ℕ × ℕ) × PairRead (first w) (second w) (Ok p) × NumberWord (third w) (Err f))))

-- the words of `back`: a machine, the number of a day, and a path; there may be no memory for the path
abbrev pub BackWords : List ℕ → Result (ℕ × ℕ × Vec ℕ Global) Fault → Type 0
BackWords w (Ok p) = ThreeWords w × PairRead (first w) (second w) (Ok (p.0, p.1)) × (vec_items p.2 ≡ third w)
BackWords w (Err f) =
    ((ThreeWords w → ⊥) × Wrong name.Back f)
    ⊎ (ThreeWords w × (PairRead (first w) (second w) (Err f) ⊎ ((p : ℕ × ℕ) × PairRead (first w) (second w) (Ok p) × (f ≡ NoMemory))))

-- a step that has no words
abbrev pub Alone : Step → StepName → List ℕ → Result Step Fault → Type 0
Alone sole n w (Ok s) = (first w ≡ []) × (s ≡ sole)
Alone sole n w (Err f) = (0 < length (first w)) × Wrong n f

-- a step that is made of what its words are read as
abbrev pub Makes : {A : Type 0} → (A → Step) → (List ℕ → Result A Fault → Type 0) → List ℕ → Result Step Fault → Type 0
Makes {A} make Read w (Ok s) = (x : A) × (s ≡ make x) × Read w (Ok x)
Makes make Read w (Err f) = Read w (Err f)

-- the step of this name that has these words
abbrev pub ReadAs : StepName → List ℕ → Result Step Fault → Type 0
ReadAs name.Digest w r = Makes step.Digest MessageRead w r
ReadAs name.Cut w r = Makes step.Cut MessageRead w r
ReadAs name.Begin w r = Makes (λ m. step.Machine m act.Begin) (OfMachine name.Begin) w r
ReadAs name.See w r = Makes (λ p. step.Machine p.0 (act.See p.1)) (BytesBehind name.See) w r
ReadAs name.File w r = Makes (λ p. step.Machine p.0 (act.File p.1 p.2)) FileWords w r
ReadAs name.Raise w r = Makes (λ m. step.Machine m act.Raise) (OfMachine name.Raise) w r
ReadAs name.Name w r = Makes (λ m. step.Machine m act.Name) (OfMachine name.Name) w r
ReadAs name.Break w r = Makes (λ m. step.Machine m act.Break) (OfMachine name.Break) w r
ReadAs name.Go w r = Makes (λ p. step.LetGo p.0 p.1) (TwoNumbers name.Go) w r
ReadAs name.Back w r = Makes (λ p. step.Back p.0 p.1 p.2) BackWords w r
ReadAs name.Bytes w r = Makes (λ p. step.Bytes p.0 p.1) (TwoNumbers name.Bytes) w r
ReadAs name.FlipPlace w r = Makes (λ p. step.FlipPiece spot.Place p.0 p.1) (BytesBehind name.FlipPlace) w r
ReadAs name.FlipAside w r = Makes (λ p. step.FlipPiece spot.Aside p.0 p.1) (BytesBehind name.FlipAside) w r
ReadAs name.FlipDay w r = Makes (λ p. step.FlipDay p.0 p.1 p.2) (ThreeNumbers name.FlipDay) w r
ReadAs name.CutDay w r = Makes (λ p. step.CutDay p.0 p.1 p.2) (ThreeNumbers name.CutDay) w r
ReadAs name.Part w r = Makes step.Part (OfMachine name.Part) w r
ReadAs name.Look w r = Alone (step.Sweeper move.Look) name.Look w r
ReadAs name.Aside w r = Alone (step.Sweeper move.Aside) name.Aside w r
ReadAs name.Note w r = Alone (step.Sweeper move.Note) name.Note w r
ReadAs name.Decide w r = Alone (step.Sweeper move.Decide) name.Decide w r
ReadAs name.Next w r = Alone (step.Sweeper move.Next) name.Next w r
ReadAs name.Stop w r = Alone step.Stop name.Stop w r
ReadAs name.Show w r = Alone step.Show name.Show w r

-- the first word is no step's name; want of memory may come in the place of the words that say so
abbrev pub NameBlamed : List ℕ → Fault → Type 0
NameBlamed l NoMemory = (Passes l → ⊥) × NoName (first l)
NameBlamed l (UnknownStep t) = (Passes l → ⊥) × NoName (first l) × (string_bytes t ≡ quotation (first l))
NameBlamed l other = ⊥

-- the step that a line is: of the name that stands first, with the words after it; or why it is none
abbrev pub StepRead : List ℕ → Result (Option Step) Fault → Type 0
StepRead l (Ok None) = Passes l
StepRead l (Ok (Some s)) = (n : StepName) × (first l ≡ name_text n) × ReadAs n (rest l) (Ok s)
StepRead l (Err f) = NameBlamed l f ⊎ ((n : StepName) × (first l ≡ name_text n) × ReadAs n (rest l) (Err f))
