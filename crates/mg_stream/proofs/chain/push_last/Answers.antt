use Rattle.std.proofs.Common.{◌<◌, ◌∙◌, ap, arith, ◌++◌, ◌∷◌, [], ℕ}
use Rattle.mg_stream.specs.Code.Chain.{entries_of}
use Rattle.mg_stream.proofs.Linked.{last_contained, pushed_behind}
use Rattle.mg_stream.proofs.chain.push_last.Goals as goal

pub index_mut-requires : goal.index_mut-requires
index_mut-requires c =
    let key = c.insert_reserved-key in
    let waits : 0 < c.args.chain.now.waiting = (let some = c.if-chain-eq0.false in omega (arith, some)) in
    last_contained c.args.entries.now key.new.self c.args.chain.now key.result _ c.requires.whole waits key.ensures.was_vacant key.ensures.updates

pub returns-clause-entries : goal.returns-clause-entries
returns-clause-entries c =
    let key = c.insert_reserved-key in
    let waits : 0 < c.args.chain.now.waiting = (let some = c.if-chain-eq0.false in omega (arith, some)) in
    pushed_behind c.args.entries.now key.new.self c.args.chain.now key.result _ c.index_mut.result.now c.requires.whole waits key.ensures.was_vacant key.ensures.updates
    c.index_mut.ensures.value
    ∙ ap (λ (k : ℕ). entries_of c.args.entries.now.slots c.args.chain.now ++ (k, c.args.packet) ∷ []) key.ensures.key
