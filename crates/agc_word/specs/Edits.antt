-- How the editing registers change a word that is written into them.
use Rattle.std.specs.Prelude.{◌++◌, take, drop, replicate}
use Rattle.agc_word.specs.Number.{Number}
use Rattle.agc_word.specs.Digits.{digits, number_of_digits}
use Rattle.agc_word.specs.declared.edit.Edit.{Edit}
use Rattle.agc_word.specs.declared.edit.Edit.TheVariants as edit

-- CYR moves the last digit to the front, SR repeats the sign and drops the last, CYL moves the
-- first to the end. EDOP keeps an interpreter's operation code: digits 2 to 8, at the right end.
unfoldable pub edited : Edit → Number → Number
edited edit.Cyr x = let ds = digits 15 x in number_of_digits (drop 14 ds ++ take 14 ds)
edited edit.Sr x = let ds = digits 15 x in number_of_digits (take 1 ds ++ take 14 ds)
edited edit.Cyl x = let ds = digits 15 x in number_of_digits (drop 1 ds ++ take 1 ds)
edited edit.Edop x = let ds = digits 15 x in number_of_digits (replicate 8 0 ++ take 7 (drop 1 ds))
