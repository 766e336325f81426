-- What a machine's step has done, in words.
-- Assumes nothing.
use Rattle.std.specs.Prelude.{ℕ, List, ◌++◌, codes, decimal}
use Rattle.digest.specs.Hex.{hex}
use Rattle.days.specs.declared.done.Done.{Done}
use Rattle.days.specs.declared.done.Done.TheVariants.{Begun, Found, Written, Added, Raised, Named, BrokenOff}

-- what a step has done
abbrev pub done_text : Done → List ℕ
done_text Begun = codes "begun"
done_text (Found n) = codes "found " ++ hex n.bytes
done_text (Written n) = codes "written " ++ hex n.bytes
done_text (Added a) = codes "added " ++ (decimal a.pieces ++ (codes ", written " ++ decimal a.written))
done_text (Raised k) = codes "raised " ++ decimal k
done_text (Named k) = codes "named " ++ decimal k
done_text BrokenOff = codes "broken off"
