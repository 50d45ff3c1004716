use Rattle.std.proofs.Common.{◌≡◌, ◌++◌, List, ℕ, refl, append_assoc}
use Rattle.std.specs.Prelude.{codes}
use Rattle.agc_listing.specs.List.{listed_place}
use Rattle.agc_listing.specs.Place.{place_text}
use Rattle.agc_encode.proofs.disassemble.push_line_to.Goals as goal

joined : (old one two new front place end : List ℕ) → one ≡ old ++ front → two ≡ one ++ place → new ≡ two ++ end → new ≡ old ++ (front ++ place ++ end)
joined old one two new front place end a b c = rw (c, b, a) (simp append_assoc refl)

pub returns : goal.returns
returns c =
    joined _ _ _ _ (codes "        SETLOC ") (place_text (listed_place c.args.place)) (codes "\n") c.in_ok-push_str.ensures.bytes (rw (c.bank_of.ensures.bank, c.listed_address.ensures.address) at c.in_ok-push_place.ensures) c.in_ok-push_str-2.ensures.bytes
