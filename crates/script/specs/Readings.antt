-- What the reading of a word may answer: a value, or the fault that is found. Want of memory may come in the place of an answer that needs memory:
-- the words of a fault, and the bytes that hexadecimal digits spell.
-- Assumes nothing.
use Rattle.std.specs.Prelude.{◌≡◌, ℕ, ◌+◌, ◌%◌, ◌<◌, ◌≤◌, List, [], ◌∷◌, length, Some, None, Ok, Err, vec_items, string_bytes, Option, Result, Vec, slice_index}
use Rattle.std.specs.declared.alloc.Global.{Global}
use Rattle.script.specs.declared.fault.Fault.{Fault}
use Rattle.script.specs.declared.fault.Fault.TheVariants.{NoMemory, NoHexDigit, OddDigits, NoByte, NoNumber}
use Rattle.script.specs.Numbers.{hex_value, HexDigits, paired, DecimalDigits, decimal_value}
use Rattle.script.specs.Quotes.{quotation}

-- c, at this place of a word, is not a hexadecimal digit; places are counted from 1
abbrev pub NoDigit : ℕ → ℕ → Fault → Type 0
NoDigit c place NoMemory = hex_value c ≡ None
NoDigit c place (NoHexDigit t at) = (at ≡ place) × (hex_value c ≡ None) × (string_bytes t ≡ quotation (c ∷ []))
NoDigit c place other = ⊥

-- the number that c, at this place, stands for as a digit
abbrev pub DigitRead : ℕ → ℕ → Result ℕ Fault → Type 0
DigitRead c place (Ok d) = (d < 16) × (hex_value c ≡ Some d)
DigitRead c place (Err f) = NoDigit c place f

-- a word is not the hexadecimal form of bytes: its first byte that is no digit, or else the odd number of its digits
abbrev pub HexBlamed : List ℕ → Fault → Type 0
HexBlamed w NoMemory = Unit {0}
HexBlamed w (NoHexDigit t place) = (i : ℕ) × (i < length w) × HexDigits w i × NoDigit (slice_index w i) (i + 1) (NoHexDigit t place)
HexBlamed w (OddDigits n) = HexDigits w (length w) × (length w % 2 ≡ 1) × (n ≡ length w)
HexBlamed w other = ⊥

-- the bytes whose hexadecimal form a word is
abbrev pub HexRead : List ℕ → Result (Vec ℕ Global) Fault → Type 0
HexRead w (Ok v) = HexDigits w (length w) × (length w % 2 ≡ 0) × (vec_items v ≡ paired w)
HexRead w (Err f) = HexBlamed w f

-- the byte that a word is, if it is two hexadecimal digits
abbrev pub ByteValue : List ℕ → Option ℕ → Type 0
ByteValue w None = length w ≡ 2 → HexDigits w 2 → ⊥
ByteValue w (Some b) = (length w ≡ 2) × HexDigits w 2 × (paired w ≡ b ∷ [])

-- a word is not a byte of two hexadecimal digits
abbrev pub ByteBlamed : List ℕ → Fault → Type 0
ByteBlamed w NoMemory = ByteValue w None
ByteBlamed w (NoByte t) = ByteValue w None × (string_bytes t ≡ quotation w)
ByteBlamed w other = ⊥

-- the byte that two hexadecimal digits are
abbrev pub ByteRead : List ℕ → Result ℕ Fault → Type 0
ByteRead w (Ok b) = ByteValue w (Some b)
ByteRead w (Err f) = ByteBlamed w f

-- the number that a word is, if it is one and not too large
abbrev pub NumberValue : ℕ → List ℕ → Option ℕ → Type 0
NumberValue most w None = DecimalDigits w (length w) → decimal_value w ≤ most → ⊥
NumberValue most w (Some n) = DecimalDigits w (length w) × (n ≡ decimal_value w) × (n ≤ most)

-- a word is not a number, or too large a one
abbrev pub NumberBlamed : ℕ → List ℕ → Fault → Type 0
NumberBlamed most w NoMemory = NumberValue most w None
NumberBlamed most w (NoNumber t m) = NumberValue most w None × (string_bytes t ≡ quotation w) × (m ≡ most)
NumberBlamed most w other = ⊥

abbrev pub NumberRead : ℕ → List ℕ → Result ℕ Fault → Type 0
NumberRead most w (Ok n) = NumberValue most w (Some n)
NumberRead most w (Err f) = NumberBlamed most w f
