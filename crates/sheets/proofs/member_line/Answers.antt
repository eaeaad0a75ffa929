-- `sheets::member_line` meets its contract: each way out is a case of `member_of_lem`; the two sets are read as its tests. Assumes nothing.
use Rattle.std.proofs.Common.{ap, sym, ◌∙◌}
use Rattle.std.specs.Result.{result_ok}
use borrow.Author.Tests.{le-leb, lt-ltb}
use Rattle.sheets.proofs.Sets.{common_none, common_some}
use Rattle.sheets.proofs.member_line.Goals as goal

pub returns-then-meet-ne0 : goal.returns-then-meet-ne0
returns-then-meet-ne0 c =
    simp (
      c.ok_or.ensures.ok_part ∙ ap result_ok c.in_ok-u.was,
      le-leb _ _ c.if-u-lt1.false,
      le-leb _ _ c.if-n-u.false,
      lt-ltb _ _ c.if-u-p.false,
      sym c.has.ensures ∙ c.if-has.false,
      common_some _ _ _ _ c.meet.ensures c.requires.4 c.if-meet-ne0.true,
    )

pub returns : goal.returns
returns c =
    simp (
      c.ok_or.ensures.ok_part ∙ ap result_ok c.in_ok-u.was,
      le-leb _ _ c.if-u-lt1.false,
      le-leb _ _ c.if-n-u.false,
      lt-ltb _ _ c.if-u-p.false,
      sym c.has.ensures ∙ c.if-has.false,
      common_none c.args.n c.args.mates _ _ c.meet.ensures c.if-meet-ne0.false,
      c.with_member.ensures,
    )
