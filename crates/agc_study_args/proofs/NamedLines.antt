-- The lines of a rope with names, one after the other.
use Rattle.std.proofs.Common.{◌≡◌, ◌∙◌, ℕ, ◌+◌, Bool, List, [], ◌∷◌, ◌++◌, ap, add-one, zero-add, append-nil, append_assoc}
use Rattle.std.specs.Prelude.{Option}
use Rattle.std.specs.List.{flat_map, range_with_len}
use Rattle.std.proofs.lemmas.Grind.{flat_map-append}
use Rattle.agc_word.specs.Number.{Number}
use Rattle.agc_store.specs.Memory.{fixed_at}
use Rattle.agc_listing.specs.List.{is_extracode_at}
use Rattle.agc_listing.proofs.RopeLines.{range_more}
use Rattle.agc_symbols.specs.Channels.{ChannelSymbol}
use Rattle.agc_study_args.specs.NamedList.{named_if_listed, named_line_at, named_lines}
use Rattle.agc_symbols.specs.Symbols.{Symbol}

module _ (names : List Symbol) (channels : List ChannelSymbol) (bank : Option ℕ) (words : List Number) where
  -- no lines yet
  pub no_lines : (text : List ℕ) → text ++ named_lines 0 names channels bank words ≡ text
  unfolding named_lines
  no_lines text = append-nil text

  -- one more place
  lines_more : (count : ℕ) → named_lines (count + 1) names channels bank words
      ≡ named_lines count names channels bank words ++ named_line_at names channels bank words count
  unfolding named_lines
  lines_more count =
      let line = named_line_at names channels bank words in
      let before = range_with_len 0 count in
      rw add-one
      (ap (flat_map line) (range_more 0 count)
      ∙ flat_map-append line before ((0 + count) ∷ [])
      ∙ ap (λ (here : List ℕ). flat_map line before ++ here) (append-nil (line (0 + count)))
      ∙ ap (λ (k : ℕ). flat_map line before ++ line k) (zero-add count))

  -- the text with the line of one more place
  pub text_more : (count : ℕ) (extracode : Bool) (word : Number) (old text new : List ℕ)
      → extracode ≡ is_extracode_at words count → word ≡ fixed_at count words → text ≡ old ++ named_lines count names channels bank words
      → new ≡ text ++ named_if_listed names channels bank (record { place = count; extracode = extracode; word = word })
      → new ≡ old ++ named_lines (count + 1) names channels bank words
  unfolding named_line_at
  text_more count extracode word old text new is_extracode is_word so_far is =
      rw (is, so_far, lines_more count, is_extracode, is_word)
      (append_assoc old (named_lines count names channels bank words) (named_line_at names channels bank words count))
