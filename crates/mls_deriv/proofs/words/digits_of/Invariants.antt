use Rattle.std.proofs.Common.{◌≡◌, ℕ, take}
use Rattle.std.specs.Prelude.{decimal}
use Rattle.std.specs.Str.Parse.{digits_value}
use Rattle.mls_deriv.specs.Forms.{IsWord}
use Rattle.mls_deriv.proofs.words.digits_of.Given as goal

-- the value of the digits so far, if the word is a number
abbrev pub invariant-loop-byte : goal.invariant-loop-byte
invariant-loop-byte l = (n : ℕ) → IsWord n → l.word ≡ decimal n → l.value ≡ digits_value 10 (take l.byte-index l.word)
