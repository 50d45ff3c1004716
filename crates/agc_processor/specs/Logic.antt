-- Logic is wide on A and Q; elsewhere both words are corrected for overflow first.
use Rattle.std.specs.Prelude.{Bool, true, false}
use Rattle.agc_word.specs.Number.{Number}
use Rattle.agc_word.specs.Arithmetic.{narrow_of}
use Rattle.agc_word.specs.Logic.{and_of, or_of, xor_of}

-- AND: 1 if both digits are 1
abbrev pub and_words_of : Bool → Number → Number → Number
and_words_of true x y = and_of x y
and_words_of false x y = and_of (narrow_of x) (narrow_of y)

-- OR: 1 if either is
abbrev pub or_words_of : Bool → Number → Number → Number
or_words_of true x y = or_of x y
or_words_of false x y = or_of (narrow_of x) (narrow_of y)

-- exclusive OR: 1 if they differ
abbrev pub xor_words_of : Bool → Number → Number → Number
xor_words_of true x y = xor_of x y
xor_words_of false x y = xor_of (narrow_of x) (narrow_of y)
