-- The parts that threads look at are the rows.
use Rattle.std.proofs.Common.{◌≡◌, ◌∙◌, List, map, max, subst, arith}
use Rattle.std.specs.Borrow.{Bor}
use Rattle.rayon.specs.Lists.{chunks_of}
use Rattle.rayon.proofs.ToStd.{chunks_of-concat, slice-all-iff}
use Rattle.group_sweeps.specs.declared.ask.Ask.{Ask}
use Rattle.group_sweeps.specs.Faults.{HasNone}
use Rattle.group_sweeps.proofs.Faulting.{joined_none}
use Rattle.group_sweeps.proofs.fault_list.are_without_fault.Goals as goal

pub returns : goal.returns
returns g c = λ is.
    let asks = c.args.asks.now in
    let size = max c.share_of-size.result 1 in
    let h = c.all.ensures in
    let chain = rw (c.with_min_len.ensures.base) at h.1 in
    let shown : map (λ (part : Bor (List Ask)). part.now) h.0 ≡ chunks_of size asks = chain ∙ (λ i. chunks_of (max (c.par_chunks.ensures.size i) 1) (c.par_chunks.ensures.slice i)) in
    subst HasNone (chunks_of-concat size asks (omega arith))
    (joined_none (chunks_of size asks) ((slice-all-iff h.0 (chunks_of size asks) shown HasNone c.all.result h.2).0 is))
