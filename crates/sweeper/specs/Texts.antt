-- What a step of the sweeper has done, in words.
-- Assumes nothing.
use Rattle.std.specs.Prelude.{ℕ, List, ◌++◌, codes, decimal}
use Rattle.digest.specs.Hex.{hex}
use Rattle.sweeper.specs.declared.done.Done.{Done}
use Rattle.sweeper.specs.declared.done.Done.TheVariants.{Looked, PutAside, Noted, Decided, PutBack, ThrownAway, Rested}

abbrev pub done_text : Done → List ℕ
done_text (Looked k) = codes "to put aside " ++ decimal k
done_text (PutAside n) = codes "put aside " ++ hex n.bytes
done_text Noted = codes "noted"
done_text (Decided b a) = codes "to put back " ++ (decimal b ++ (codes ", to throw away " ++ decimal a))
done_text (PutBack n) = codes "put back " ++ hex n.bytes
done_text (ThrownAway n) = codes "thrown away " ++ hex n.bytes
done_text Rested = codes "rested"
