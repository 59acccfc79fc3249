use Rattle.std.proofs.Common.{◌≡◌, ◌∙◌, ◌+◌, ◌<◌, ℕ, List, length, take, subst, get_or}
use Rattle.std.proofs.lemmas.Result.{err_from_is_err_and}
use Rattle.pf_script.specs.Lines.{LINE_FEED, HasNoFeed}
use Rattle.pf_script.specs.LineReading.{CutsAt}
use Rattle.pf_script.proofs.Parts.{seen_part}
use Rattle.pf_script.proofs.Advancing.{looking_first, room_few, room_made, more_read, found, finished, failed, no_bytes, any_bytes}
use Rattle.pf_script.proofs.line_reader.LineReader.read_line.Goals as goal

pub loop-self-init : goal.loop-self-init
loop-self-init g c = looking_first c.args.self.now (g.S.Source.state c.args.input.now) c.requires.open c.requires.no_feed

pub returns-in_err-fill : goal.returns-in_err-fill
returns-in_err-fill g c =
    let p = err_from_is_err_and c.from_residual.result c.from_residual.ensures.1 in
    let before = g.S.Source.state c.args.input.now in
    let mid = g.S.Source.state c.loop-self.input in
    let after = g.S.Source.state c.fill.new.input in
    let looking = room_made c.loop-self.long c.make_room-long.result c.args.self.now c.loop-self.self c.make_room-long.new.self before mid c.loop-self.invariant c.make_room-long.ensures in
    rw p.1 (failed c.make_room-long.result _ c.args.self.now c.make_room-long.new.self c.fill.new.self before mid after looking c.in_err-fill.ensures)

pub returns-then-branch-eq0 : goal.returns-then-branch-eq0
returns-then-branch-eq0 g c =
    let before = g.S.Source.state c.args.input.now in
    let mid = g.S.Source.state c.loop-self.input in
    let after = g.S.Source.state c.fill.new.input in
    let looking = room_made c.loop-self.long c.make_room-long.result c.args.self.now c.loop-self.self c.make_room-long.new.self before mid c.loop-self.invariant c.make_room-long.ensures in
    let few = room_few c.loop-self.long c.make_room-long.result c.loop-self.self c.make_room-long.new.self c.make_room-long.ensures in
    let read = c.in_ok-fill.ensures in
    finished c.make_room-long.result c.finish.result c.args.self.now c.make_room-long.new.self c.fill.new.self c.finish.new.self before mid after read.0 looking few read.2 (no_bytes read.0 (read.1 ∙ c.if-branch-eq0.true)) c.finish.ensures

pub returns-in-Some : goal.returns-in-Some
returns-in-Some g c =
    let before = g.S.Source.state c.args.input.now in
    let mid = g.S.Source.state c.loop-self.input in
    let after = g.S.Source.state c.fill.new.input in
    let looking = room_made c.loop-self.long c.make_room-long.result c.args.self.now c.loop-self.self c.make_room-long.new.self before mid c.loop-self.invariant c.make_room-long.ensures in
    let read = c.in_ok-fill.ensures in
    let at = c.in-Some.at in
    let part = seen_part c.pending.result.now c.pending-seen.result.now c.fill.new.self.pending c.make_room-long.new.self.pending c.pending.ensures.same c.pending-seen.ensures.same in
    let here = c.in-Some.ensures in
    found c.make_room-long.result c.cut.result c.args.self.now c.make_room-long.new.self c.fill.new.self c.cut.new.self before mid after read.0 at looking read.2 (any_bytes read.0 c.in_ok-fill.field-0 read.1 c.if-branch-eq0.false)
    (subst (λ (t : List ℕ). at < length t) part here.0) (subst (λ (t : List ℕ). HasNoFeed (take at t)) part here.1) (subst (λ (t : List ℕ). get_or t at 0 ≡ LINE_FEED) part here.2)
    (subst (λ (t : List ℕ). CutsAt (length t + at) c.make_room-long.result c.cut.result c.fill.new.self c.cut.new.self) c.pending-seen.ensures.same c.cut.ensures)

pub loop-self-preserved : goal.loop-self-preserved
loop-self-preserved g c =
    let before = g.S.Source.state c.args.input.now in
    let mid = g.S.Source.state c.loop-self.input in
    let after = g.S.Source.state c.fill.new.input in
    let looking = room_made c.loop-self.long c.make_room-long.result c.args.self.now c.loop-self.self c.make_room-long.new.self before mid c.loop-self.invariant c.make_room-long.ensures in
    let read = c.in_ok-fill.ensures in
    let part = seen_part c.pending.result.now c.pending-seen.result.now c.fill.new.self.pending c.make_room-long.new.self.pending c.pending.ensures.same c.pending-seen.ensures.same in
    more_read c.make_room-long.result c.args.self.now c.make_room-long.new.self c.fill.new.self before mid after read.0 looking read.2 (any_bytes read.0 c.in_ok-fill.field-0 read.1 c.if-branch-eq0.false) (subst HasNoFeed part c.in_default.ensures)
