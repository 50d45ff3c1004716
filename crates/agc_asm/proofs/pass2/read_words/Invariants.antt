use Rattle.std.specs.Prelude.{◌≡◌, ◌+◌, [], length, map}
use Rattle.agc_vocabulary.specs.Name.{naming_of}
use Rattle.agc_asm.specs.Source.{IsState, due_from, first_state, words_from}
use Rattle.agc_asm.proofs.pass2.read_words.Given as goal

abbrev pub invariant-loop-rest : goal.invariant-loop-rest
invariant-loop-rest l = record {
  same : words_from (l.number + 1) (naming_of l.names) l.state l.builder (map (λ line. line.text.now) l.rest) ≡ words_from 1 (naming_of l.names) first_state [] (map (λ line. line.text.now) l.fn.lines);
  due : due_from (naming_of l.names) l.state (map (λ line. line.text.now) l.rest) ≡ due_from (naming_of l.names) first_state (map (λ line. line.text.now) l.fn.lines);
  count : l.number + length l.rest ≡ length l.fn.lines;
  at : IsState l.state;
}

abbrev pub decreases-loop-rest : goal.decreases-loop-rest
decreases-loop-rest l = length l.rest
