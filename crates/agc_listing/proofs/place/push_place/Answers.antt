use Rattle.std.proofs.Common.{arith, append_assoc}
use Rattle.agc_word.proofs.Octal.{octal_text}
use Rattle.agc_listing.proofs.place.push_place.Goals as goal

pub returns-in-Plain : goal.returns-in-Plain
returns-in-Plain c =
    let digits = octal_text 4 c.in-Plain.address (omega arith) (omega arith) (omega (arith, rw c.in-Plain.is at c.requires)) in
    let by_std = c.write.ensures.bytes in
    let laid_out = rw (c.in_radix.ensures, c.laid_out.ensures) at by_std in
    let written = rw digits at laid_out in
    rw c.in-Plain.is written

pub returns-in-Erasable : goal.returns-in-Erasable
returns-in-Erasable c =
    let printed = rw c.in-Erasable.is at c.requires in
    let bank = octal_text 1 c.in-Erasable.bank (omega arith) (omega arith) (omega (arith, printed.0)) in
    let address = octal_text 4 c.in-Erasable.address (omega arith) (omega arith) (omega (arith, printed.1)) in
    let by_std = c.write-in-Erasable.ensures.bytes in
    let laid_out = rw (c.in_radix-in-Erasable.ensures, c.laid_out-in-Erasable.ensures, c.in_radix-in-Erasable-2.ensures, c.laid_out-in-Erasable-2.ensures) at by_std in
    let written = rw (bank, address) at laid_out in
    rw c.in-Erasable.is (simp append_assoc written)

pub returns-in-Fixed : goal.returns-in-Fixed
returns-in-Fixed c =
    let printed = rw c.in-Fixed.is at c.requires in
    let bank = octal_text 2 c.in-Fixed.bank (omega arith) (omega arith) (omega (arith, printed.0)) in
    let address = octal_text 4 c.in-Fixed.address (omega arith) (omega arith) (omega (arith, printed.1)) in
    let by_std = c.write-in-Fixed.ensures.bytes in
    let laid_out = rw (c.in_radix-in-Fixed.ensures, c.laid_out-in-Fixed.ensures, c.in_radix-in-Fixed-2.ensures, c.laid_out-in-Fixed-2.ensures) at by_std in
    let written = rw (bank, address) at laid_out in
    rw c.in-Fixed.is (simp append_assoc written)
