use Rattle.reading.proofs.Named.{kind_got}
use Rattle.reading.proofs.texts.is_of_kind.Goals as goal

pub returns : goal.returns
returns c = kind_got _ _ c.args.source.now.kinds_known _ _ c.from.ensures _ _ c.get.ensures.lookup.0 c.get.ensures.lookup.1 _ c.eq.ensures
