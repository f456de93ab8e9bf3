use Rattle.std.proofs.Common.{◌≡◌, length, subst, arith}
use Rattle.tick_postprocess.specs.Pieces.{AreJoined}
use Rattle.tick_postprocess.proofs.PieceSteps.{pieces_push}
use Rattle.tick_postprocess.proofs.piece.post_pieces.Goals as goal

pub loop-preserved : goal.loop-preserved
loop-preserved c =
    let inv = c.loop.invariant in
    let more =
    pieces_push c.args.world.now c.loop.pieces.items c.push.new.self.items c.loop.first c.min-end.result c.in_ok-new_piece.field-0 inv.each inv.joined c.in_ok-new_piece.ensures.piece c.in_ok-new_piece.ensures.run
    c.in_ok-push.ensures.items in
    record {
      each = more.0;
      joined = more.1;
      inside = omega (arith, c.min-end.ensures, c.len-rows.ensures.value);
    }

pub returns : goal.returns
returns c =
    let inv = c.loop.invariant in
    let rows = c.args.world.now.world.rows in
    let more =
    pieces_push c.args.world.now c.loop.pieces.items c.push-2.new.self.items c.loop.first c.len-rows.result c.in_ok-new_piece-2.field-0 inv.each inv.joined c.in_ok-new_piece-2.ensures.piece c.in_ok-new_piece-2.ensures.run
    c.in_ok-push-2.ensures.items in
    let all : c.len-rows.result ≡ length rows = omega (arith, c.len-rows.ensures.value) in
    record { each = more.0; joined = subst (λ n. AreJoined 0 n c.push-2.new.self.items) all more.1 }
