-- The words of the faults.
-- Assumes nothing.
use Rattle.std.specs.Prelude.{ℕ, List, ◌++◌, string_bytes, codes, decimal}
use Rattle.script.specs.declared.fault.Fault.{Fault}
use Rattle.script.specs.declared.fault.Fault.TheVariants.{TooLong, NoMemory, UnknownStep, WrongWords, WrongForm, NoHexDigit, OddDigits, NoByte, NoNumber}

-- why a line is no step
abbrev pub fault_text : Fault → List ℕ
fault_text TooLong = codes "longer than 67108864 bytes"
fault_text NoMemory = codes "there is not enough memory"
fault_text (UnknownStep word) = codes "no step is called " ++ string_bytes word
fault_text (WrongWords line) = codes "write the line as '" ++ (line.now ++ codes "'")
fault_text WrongForm = codes "write bytes as HEX, as 'repeat BYTE COUNT' or as 'random SEED COUNT'"
fault_text (NoHexDigit word place) = string_bytes word ++ (codes " is not a hexadecimal digit, at place " ++ decimal place)
fault_text (OddDigits count) = codes "an odd number of hexadecimal digits, " ++ decimal count
fault_text (NoByte word) = string_bytes word ++ codes " is not a byte of two hexadecimal digits"
fault_text (NoNumber word most) = string_bytes word ++ (codes " is not a number from 0 to " ++ decimal most)
