-- `mending::Gone::close` meets its contract: a group of which nothing was kept vanishes, any other one stays. Assumes nothing.
use mathlib.Core.Path.{refl}
use Rattle.mending.proofs.HeldLaws.{vanishes, stays_room, stays_is, stays_fits}
use Rattle.mending.proofs.Gone.close.Goals as goal

pub push-requires : goal.push-requires
push-requires c = stays_room 64 c.args.n c.args.self.now c.requires.1 c.if-self-ne0.true

pub returns-then-self-ne0 : goal.returns-then-self-ne0
returns-then-self-ne0 c =
    let g = c.args.self.now in
    let p = c.push.ensures in (
      stays_is 64 c.args.n g c.requires.1 c.if-self-ne0.true c.push.new.self p.sets p.many,
      stays_fits 64 c.args.n g c.requires.1 c.if-self-ne0.true c.push.new.self p.sets p.many,
      refl,
    )

pub returns-else-self-ne0 : goal.returns-else-self-ne0
returns-else-self-ne0 c = (vanishes 64 c.args.n c.args.self.now c.requires.1 c.if-self-ne0.false, c.requires.1, refl)
