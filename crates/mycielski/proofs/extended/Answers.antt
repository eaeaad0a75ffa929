-- `mycielski::extended` meets its contract. The loop's invariant: what is done of H has its chosen members, with their edges. The measure: what is
-- left. Assumes nothing.
use mathlib.Core.Path.{sym, ap, ◌∙◌, subst}
use mathlib.Core.List.{List}
use Prim.Native.Nat.{ℕ}
use lib.ListN.{length, get_or}
use Rattle.sets.specs.Set.{IsMeet, IsWith}
use Rattle.graphs.proofs.LoopLaws.{left_falls}
use Rattle.graphs.specs.Held.{holding}
use Rattle.mycielski.specs.Words.{sub}
use Rattle.mycielski.proofs.DoneLaws.{within_again}
use Rattle.mycielski.proofs.RoundLoops.{offered, Extending, extending_start, extending_again, extending_end}
use Rattle.mycielski.proofs.extended.Goals as goal

pub members-init : goal.members-init
members-init g c =
    let b = g.S.Bits in
    let a = c.args in
    let same = c.requires.near_value in (
      λ x t. t,
      ap length same ∙ c.requires.old_len.0,
      λ m k i t.
          let h = holding (b.as_num a.live) (b.as_rows a.rows.now) m in
          let old = sub (b.as_num a.set) (b.as_rows a.old.now) in
          subst (λ (r : List ℕ). Extending h k old i a.w t (sub (b.as_num c.with-next.result) (b.as_rows r)) (b.as_num a.set)) (sym same)
          (extending_start h k old i a.w t (b.as_num c.with-next.result) (g.met.S.Bits.rows_long a.old.now c.requires.old_len.0) c.with-next.ensures),
    )

pub lowest-u-requires : goal.lowest-u-requires
lowest-u-requires g c =
    let b = g.S.Bits in
    let a = c.args in
    let l = c.members in
    let v = c.lowest-v in
    let q = c.requires.holds in
    let here = l.invariant.0 v.result v.ensures.member in
    let h = holding (b.as_num a.live) (b.as_rows a.rows.now) q.0 in
    let s = get_or (b.as_rows a.fit.now) v.result 0 in
    let met = subst (λ x. IsMeet x (get_or (b.as_rows a.rows.now) a.w 0) (b.as_num c.meet.result)) c.row-s.ensures
    (subst (λ x. IsMeet (b.as_num c.row-s.result) x (b.as_num c.meet.result)) c.row-row.ensures c.meet.ensures) in
    offered h q.1 (sub (b.as_num a.set) (b.as_rows a.old.now)) c.requires.among a.w (c.requires.each q.0 q.1) v.result s (b.as_num c.meet.result)
    (c.requires.each_2 q.0 q.1 v.result here) met here

pub members-smaller : goal.members-smaller
members-smaller g c = let low = c.lowest-v in left_falls _ _ _ low.ensures (c.rest-left.ensures low.result low.ensures)

pub members-preserved : goal.members-preserved
members-preserved g c =
    let b = g.S.Bits in
    let a = c.args in
    let l = c.members in
    let v = c.lowest-v in
    let u = c.lowest-u in
    let p = sub (b.as_num a.set) (b.as_rows a.old.now) in
    let rest = b.as_num c.rest-left.result in
    let out = c.rest-left.ensures v.result v.ensures in
    let here = l.invariant.0 v.result v.ensures.member in
    let s = get_or (b.as_rows a.fit.now) v.result 0 in
    let met = subst (λ x. IsMeet x (get_or (b.as_rows a.rows.now) a.w 0) (b.as_num c.meet.result)) c.row-s.ensures
    (subst (λ x. IsMeet (b.as_num c.row-s.result) x (b.as_num c.meet.result)) c.row-row.ensures c.meet.ensures) in
    let ys = subst (λ x. IsWith x a.w (b.as_num c.with-ys.result)) c.row.ensures c.with-ys.ensures in (
      within_again p.set (b.as_num l.left) v.result rest l.invariant.0 v.ensures out,
      c.tie.ensures.near_len_2,
      λ m k i t.
          extending_again (holding (b.as_num a.live) (b.as_rows a.rows.now) m) k p i a.w t (sub (b.as_num l.next) (b.as_rows l.near)) (b.as_num l.left)
          v.result s (b.as_num c.meet.result) u.result (b.as_num c.with-ys.result) (b.as_num c.with-next-in-members.result) _ rest
          (l.invariant.2 m k i t) v.ensures (c.requires.each_2 m k v.result here) met u.ensures ys
          c.with-next-in-members.ensures c.tie.ensures.ties out,
    )

pub returns-clause-round : goal.returns-clause-round
returns-clause-round g c =
    let b = g.S.Bits in
    let a = c.args in
    let l = c.members in
    let p = sub (b.as_num a.set) (b.as_rows a.old.now) in
    λ m k.
    let h = holding (b.as_num a.live) (b.as_rows a.rows.now) m in
    let t = c.requires.each m k in
    let next = sub (b.as_num l.next) (b.as_rows l.near) in
    extending_end h k p c.requires.among a.w t next
    (subst (λ r. Extending h k p c.requires.among a.w t next r) (c.is_empty.ensures.0 c.members-test.false) (l.invariant.2 m k c.requires.among t))
