-- The names of the steps, and how their lines are written.
-- Assumes nothing.
use Rattle.std.specs.Prelude.{◌≡◌, ◌≢◌, ℕ, List, Option, MatchOption, codes}
use Rattle.script.specs.declared.fault.Fault.{Fault}
use Rattle.script.specs.declared.fault.Fault.TheVariants.{WrongWords}
use Rattle.rehearsal.specs.declared.name.StepName.{StepName}
use Rattle.rehearsal.specs.declared.name.StepName.TheVariants.{Digest, Cut, Begin, See, File, Raise, Name, Break, Go, Back, Bytes, FlipPlace, FlipAside, FlipDay, CutDay, Part, Look, Aside, Note, Decide, Next, Stop, Show}

-- the word that stands first
abbrev pub name_text : StepName → List ℕ
name_text Digest = codes "digest"
name_text Cut = codes "cut"
name_text Begin = codes "begin"
name_text See = codes "see"
name_text File = codes "file"
name_text Raise = codes "raise"
name_text Name = codes "name"
name_text Break = codes "break"
name_text Go = codes "go"
name_text Back = codes "back"
name_text Bytes = codes "bytes"
name_text FlipPlace = codes "flip-place"
name_text FlipAside = codes "flip-aside"
name_text FlipDay = codes "flip-day"
name_text CutDay = codes "cut-day"
name_text Part = codes "part"
name_text Look = codes "look"
name_text Aside = codes "aside"
name_text Note = codes "note"
name_text Decide = codes "decide"
name_text Next = codes "next"
name_text Stop = codes "stop"
name_text Show = codes "show"

-- its line, as a message shows it
abbrev pub line_text : StepName → List ℕ
line_text Digest = codes "digest BYTES"
line_text Cut = codes "cut BYTES"
line_text Begin = codes "begin M"
line_text See = codes "see M BYTES"
line_text File = codes "file M PATH BYTES"
line_text Raise = codes "raise M"
line_text Name = codes "name M"
line_text Break = codes "break M"
line_text Go = codes "go M N"
line_text Back = codes "back M N PATH"
line_text Bytes = codes "bytes M N"
line_text FlipPlace = codes "flip-place AT BYTES"
line_text FlipAside = codes "flip-aside AT BYTES"
line_text FlipDay = codes "flip-day M N AT"
line_text CutDay = codes "cut-day M N LENGTH"
line_text Part = codes "part M"
line_text Look = codes "look"
line_text Aside = codes "aside"
line_text Note = codes "note"
line_text Decide = codes "decide"
line_text Next = codes "next"
line_text Stop = codes "stop"
line_text Show = codes "show"

-- a word that is the name of no step
abbrev pub NoName : List ℕ → Type 0
NoName w = (n : StepName) → w ≢ name_text n

-- none of the sweeper's steps, of the damages and the sweeper's, of the steps for a day and these
abbrev pub NoneOfSweeper : List ℕ → Type 0
NoneOfSweeper w = (w ≢ codes "look") × (w ≢ codes "aside") × (w ≢ codes "note") × (w ≢ codes "decide") × (w ≢ codes "next") × (w ≢ codes "stop")

abbrev pub NoDamage : List ℕ → Type 0
NoDamage w = (w ≢ codes "flip-place") × (w ≢ codes "flip-aside") × (w ≢ codes "flip-day") × (w ≢ codes "cut-day") × NoneOfSweeper w

abbrev pub NoneOfDay : List ℕ → Type 0
NoneOfDay w = (w ≢ codes "go") × (w ≢ codes "back") × (w ≢ codes "bytes") × NoDamage w

-- whether it is one of those, and which
abbrev pub SweeperCalled : List ℕ → Option StepName → Type 0
SweeperCalled w n = MatchOption n (NoneOfSweeper w) (λ n. w ≡ name_text n)

abbrev pub DamageCalled : List ℕ → Option StepName → Type 0
DamageCalled w n = MatchOption n (NoDamage w) (λ n. w ≡ name_text n)

abbrev pub DayCalled : List ℕ → Option StepName → Type 0
DayCalled w n = MatchOption n (NoneOfDay w) (λ n. w ≡ name_text n)

-- the fault that the words after a name are not those of its line
abbrev pub Wrong : StepName → Fault → Type 0
Wrong n (WrongWords line) = line.now ≡ line_text n
Wrong n other = ⊥
