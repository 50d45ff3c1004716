use Rattle.std.proofs.Common.{sym}
use Rattle.agc_listing.proofs.RopeLines.{extracode_first}
use Rattle.agc_encode.proofs.Places.{extracode_next, follows_first, follows_next, no_places, text_more, wanted_first, wanted_next}
use Rattle.agc_encode.proofs.disassemble.push_places.Goals as goal

pub loop-place-init : goal.loop-place-init
loop-place-init c = record {
  text = sym (no_places c.args.bank c.args.store.now.fixed _);
  follows = follows_first c.args.store.now.fixed;
  wanted = wanted_first c.args.store.now.fixed;
  extracode = extracode_first c.args.store.now.fixed;
}

pub loop-place-preserved : goal.loop-place-preserved
loop-place-preserved c =
    let h = c.loop-place.invariant in
    let words = c.args.store.now.fixed in
    let place = c.loop-place.place in
    let word = c.fixed_at-word.result in
    let is = c.fixed_at-word.ensures in
    let next = c.read_next-read.ensures in
    record {
      text = text_more c.args.bank words place c.loop-place.read.follows c.loop-place.read.wanted c.loop-place.read.extracode word _ _ _
          h.follows h.wanted h.extracode is h.text c.in_ok-push_text_at_place.ensures;
      follows = follows_next words place c.read_next-read.result.follows word is next.follows;
      wanted = wanted_next words place c.loop-place.read.wanted c.loop-place.read.extracode c.read_next-read.result.wanted word h.wanted h.extracode is next.wanted;
      extracode = extracode_next words place c.loop-place.read.extracode c.read_next-read.result.extracode word h.extracode is next.extracode;
    }
