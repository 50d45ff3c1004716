use Rattle.std.proofs.Common.{refl, sym}
use Rattle.agc_word.specs.Patterns.{pattern_back}
use Rattle.agc_listing.specs.Order.{extracode_text}
use Rattle.agc_encode.proofs.ExtracodeRows.{names_it, not_refused, only, shows_it}
use Rattle.agc_encode.proofs.row.extracode_word.Goals as goal

pub returns-clause-named : goal.returns-clause-named
returns-clause-named c =
    rw (c.with_bits.ensures, pattern_back 15 c.in_ok-bits.bits c.in_ok-bits.ensures.range) (names_it c.args.order c.args.given c.in_ok-bits.bits (sym c.in_ok-bits.ensures.word))

pub returns-clause-operand : goal.returns-clause-operand
returns-clause-operand c =
    rw (c.with_bits.ensures, pattern_back 15 c.in_ok-bits.bits c.in_ok-bits.ensures.range) (shows_it c.args.order c.args.given c.in_ok-bits.bits (sym c.in_ok-bits.ensures.word))

pub returns-clause-shown : goal.returns-clause-shown
unfolding extracode_text
returns-clause-shown c =
    let given = c.in_ok-bits.bits in
    let word = sym c.in_ok-bits.ensures.word in
    rw (c.with_bits.ensures, pattern_back 15 given c.in_ok-bits.ensures.range, names_it c.args.order c.args.given given word, shows_it c.args.order c.args.given given word) refl

pub returns-clause-only : goal.returns-clause-only
returns-clause-only c = λ bits h named shown.
    rw (c.with_bits.ensures, only c.args.order c.args.given c.in_ok-bits.bits bits (sym c.in_ok-bits.ensures.word) h named shown)

pub returns-in_err-bits-clause-only : goal.returns-in_err-bits-clause-only
returns-in_err-bits-clause-only c = λ bits h named shown.
    absurd (not_refused c.args.order c.args.given _ bits (sym c.in_err-bits.ensures.word) h named shown)
