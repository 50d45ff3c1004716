use Rattle.std.proofs.Common.{length}
use Rattle.agc_word.specs.Text.{words_of}
use Rattle.agc_panel.proofs.panel_line.+same_words.Given as goal

abbrev pub decreases-same_words : goal.decreases-same_words
decreases-same_words l = length (words_of l.one.now)
