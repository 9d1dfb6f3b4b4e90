use Rattle.int128.proofs.+pow_words.Given as goal

abbrev pub decreases-pow_words : goal.decreases-pow_words
decreases-pow_words l = l.exponent
