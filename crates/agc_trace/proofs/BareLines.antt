-- Lines without names, and the places that addresses read.
use Rattle.std.proofs.Common.{◌≡◌, ℕ, List, [], ◌++◌, Option, None, Bool, true, false, refl, ap, sym, ◌∙◌, ◌<◌, append_assoc, append-nil, arith}
use Rattle.std.specs.Prelude.{codes, nat_lt, if◌then◌else◌}
use Rattle.std.specs.Fmt.{decimal}
use Rattle.std.proofs.lemmas.Bool.Decides.{nat_tests}
use Rattle.agc_word.specs.Number.{Number}
use Rattle.agc_word.specs.Octal.{word_digits}
use Rattle.agc_store.specs.Memory.{Memory, cell_at, erasable_place, fixed_at, fixed_place, is_erasable, nothing, read_of}
use Rattle.agc_store.specs.Places.{fixed_words}
use Rattle.agc_machine.specs.declared.upcoming.InHand.{InHand}
use Rattle.agc_machine.specs.declared.upcoming.Upcoming.{Upcoming}
use Rattle.agc_machine.specs.declared.upcoming.Upcoming.TheVariants as upcoming
use Rattle.agc_listing.specs.Order.{basic_text, extracode_text, order_text}
use Rattle.agc_listing.specs.Place.{place_text}
use Rattle.agc_listing.specs.declared.location.Location.TheVariants as location
use Rattle.agc_symbols.specs.Channels.{ChannelSymbol, name_of_channel}
use Rattle.agc_symbols.specs.Symbols.{Symbol}
use Rattle.agc_trace.specs.Change.{changes_text}
use Rattle.agc_trace.specs.Line.{entry_text, happening_text, order_place, registers_text, shown_text}
use Rattle.agc_listing.specs.Location.{location_in}
use Rattle.agc_trace.specs.Operand.{mnemonic_of, word_at}
use Rattle.agc_trace.specs.OperandLaws.{IsBare, IsInRope}
use Rattle.agc_trace.specs.OperandLine.{called_or, digits_of, entry_in_form, happening_in_form, operand_called, order_in_form, watched_line}
use Rattle.agc_trace.specs.Watch.{Watched}
use Rattle.agc_trace.specs.declared.line_form.LineForm.{LineForm}
use Rattle.agc_trace.specs.declared.line_form.Notation.{Notation}
use Rattle.agc_trace.specs.declared.operand.Operand.{Operand}
use Rattle.agc_trace.specs.declared.operand.Operand.TheVariants as operand

-- the text of an order is its mnemonic and its operand
order_by : (bank address : ℕ) (word : Number) (extracode : Bool) →
    order_text extracode word
    ≡ mnemonic_of (record { bank = bank; address = address; word = word; extracode = extracode })
    ++ digits_of (record { bank = bank; address = address; word = word; extracode = extracode })
unfolding basic_text extracode_text
order_by bank address word true = refl
order_by bank address word false = refl

bare : LineForm
bare = record { names = None; channels = []; operands = None }

uncalled : (used : Operand) → operand_called bare used ≡ None
unfolding bare name_of_channel
uncalled operand.Nothing = refl
uncalled (operand.Target at) = refl
uncalled (operand.Word word) = refl
uncalled (operand.Pair upper lower) = refl
uncalled (operand.Channel channel) = refl

ordered : (order : InHand) (used : Operand) → order_in_form bare order used ≡ happening_text (upcoming.Order order)
unfolding bare order_in_form happening_text
ordered order used =
    let place = place_text (order_place order.bank order.address) in
    ap (λ (o : Option _). place ++ codes " " ++ [] ++ word_digits order.word ++ codes " " ++ mnemonic_of order ++ called_or o (digits_of order) ++ []) (uncalled used)
    ∙ append-nil _
    ∙ ap (λ (xs : List ℕ). xs ++ word_digits order.word ++ codes " " ++ mnemonic_of order ++ digits_of order) (append-nil (place ++ codes " "))
    ∙ append_assoc (place ++ codes " " ++ word_digits order.word ++ codes " ") (mnemonic_of order) (digits_of order)
    ∙ ap (λ (xs : List ℕ). place ++ codes " " ++ word_digits order.word ++ codes " " ++ xs) (sym (order_by order.bank order.address order.word order.extracode))

happens : (u : Upcoming) (used : Operand) → happening_in_form bare u used ≡ happening_text u
happens (upcoming.Order order) used = ordered order used
happens (upcoming.Stop why) used = refl
happens (upcoming.Event what) used = refl
happens (upcoming.Timer t) used = refl
happens (upcoming.Interrupt r) used = refl

lined : (watched : Watched) → watched_line bare watched ≡ entry_text watched.entry ++ changes_text watched.changes ++ codes "\n"
unfolding watched_line entry_in_form entry_text
lined watched =
    ap (λ (xs : List ℕ). decimal watched.entry.cycle ++ codes " " ++ xs ++ shown_text watched.entry.write ++ codes " | " ++ registers_text watched.entry.registers ++ changes_text watched.changes ++ codes "\n")
    (happens watched.entry.happening watched.operand)

as_bare : (form : LineForm) → IsBare form → form ≡ bare
unfolding bare
as_bare form h =
    ap (λ (o : Option (List Symbol)). record form { names = o }) h.names
    ∙ ap (λ (xs : List ChannelSymbol). record form { names = None; channels = xs }) h.channels
    ∙ ap (λ (o : Option Notation). record { names = None; channels = []; operands = o }) h.operands

pub bare_line : (form : LineForm) (watched : Watched) → IsBare form
    → watched_line form watched ≡ entry_text watched.entry ++ changes_text watched.changes ++ codes "\n"
bare_line form watched h = ap (λ (f : LineForm). watched_line f watched) (as_bare form h) ∙ lined watched

read_fixed : (b : Bool) (place : ℕ) (m : Memory) → nat_lt place fixed_words ≡ b → place < fixed_words →
    (if b then fixed_at place m.fixed else nothing) ≡ fixed_at place m.fixed
read_fixed true place m e h = refl
read_fixed false place m e h = absurd (grind (arith, nat_tests))

read_by : (b : Bool) (m : Memory) (address : ℕ) →
    IsInRope (if b then location.Erasable (erasable_place m.erasable address) else location.Fixed (fixed_place m address)) →
    word_at m (if b then location.Erasable (erasable_place m.erasable address) else location.Fixed (fixed_place m address))
    ≡ (if b then cell_at (erasable_place m.erasable address) m.erasable else fixed_at (fixed_place m address) m.fixed)
unfolding word_at
read_by true m address h = refl
read_by false m address h = read_fixed _ (fixed_place m address) m refl h

pub reads_place : (m : Memory) (address : ℕ) → IsInRope (location_in m address) → word_at m (location_in m address) ≡ read_of m address
unfolding location_in read_of
reads_place m address h = read_by (is_erasable address) m address h
