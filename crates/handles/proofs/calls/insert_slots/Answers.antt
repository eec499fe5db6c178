use Rattle.handles.proofs.Calling.{insert_made}
use Rattle.handles.proofs.calls.insert_slots.Goals as goal

pub returns : goal.returns
returns g c =
    let m = insert_made c.args.slots.now c.args.len.now c.args.capacity c.args.hash c.args.handle c.place.new.slots
    c.requires.sound c.requires.sized c.if-len-capacity.false c.place.ensures in
    record { inserts = m.0; sound = m.1 }
