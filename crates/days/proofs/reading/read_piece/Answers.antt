use Rattle.days.proofs.Joining.{third}
use Rattle.days.proofs.reading.read_piece.Goals as goal

pub returns : goal.returns
returns g c =
    rw c.ok_or.ensures.value (third
    g.S.Store.does
    c.args.name
    c.args.store.now
    c.read_right.new.store
    c.read_right-2.new.store
    c.read_right-3.new.store
    c.in_ok-again.again
    (rw c.in_default.is at c.in_ok-bytes.ensures)
    (rw c.in_default-2.is at c.in_ok-bytes-2.ensures)
    c.in_ok-again.ensures)
