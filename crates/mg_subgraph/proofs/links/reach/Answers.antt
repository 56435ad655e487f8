use Rattle.std.proofs.Common.{◌≡◌, ◌∙◌, ◌<◌, ◌+◌, ◌||◌, sym, ap, length, map, rules, arith, Some}
use Rattle.std.specs.Prelude.{slice_get}
use Rattle.mg_subgraph.specs.Code.Places.{listed, flag_at}
use Rattle.mg_subgraph.proofs.Flags.{read_within, read_set, set_count-le-length}
use Rattle.mg_subgraph.proofs.Steps.{got, got_map, length-map}
use Rattle.mg_subgraph.proofs.Reached.{walk_turns}
use Rattle.mg_subgraph.proofs.links.reach.Goals as goal

pub offset_bounds-links-place : goal.offset_bounds-links-place
offset_bounds-links-place c =
    let found = c.loop-next.found in
    let test : c.loop-next.next < length found.places.items = omega (arith, c.len.ensures) in
    let inside = read_within found.flags.items found.places.items c.loop-next.next c.index-place.result.now found.same test c.index-place.ensures in
    let len = c.loop-next.invariant.len in
    search rules

pub bounds-links-place : goal.bounds-links-place
bounds-links-place c =
    let found = c.loop-next.found in
    let test : c.loop-next.next < length found.places.items = omega (arith, c.len.ensures) in
    let inside = read_within found.flags.items found.places.items c.loop-next.next c.index-place.result.now found.same test c.index-place.ensures in
    let len = c.loop-next.invariant.len in
    omega arith

pub add_all-requires-in-loop-next : goal.add_all-requires-in-loop-next
add_all-requires-in-loop-next c = λ other known.
    let found = c.loop-next.found in
    let place = c.index-place.result.now in
    let test : c.loop-next.next < length found.places.items = omega (arith, c.len.ensures) in
    let inside = read_within found.flags.items found.places.items c.loop-next.next place found.same test c.index-place.ensures in
    let len = c.loop-next.invariant.len in
    let at : slice_get c.args.links.now place ≡ Some c.index-links-place.result = got c.args.links.now place c.index-links-place.result (omega arith) c.index-links-place.is in
    let within = c.requires.links place c.index-links-place.result.items (got_map (λ list. list.items) c.args.links.now place c.index-links-place.result at) other (ap (listed other) (sym c.as_slice.ensures.value) ∙ known) in
    omega (arith, length-map (λ list. list.items) c.args.links.now)

pub loop-next-smaller : goal.loop-next-smaller
loop-next-smaller c =
    let found = c.loop-next.found in
    let same = c.add_all-in-loop-next.ensures.len in
    let once = found.once in
    let few = set_count-le-length found.flags.items in
    let test : c.loop-next.next < length found.places.items = omega (arith, c.len.ensures) in
    omega arith

pub loop-next-preserved : goal.loop-next-preserved
loop-next-preserved c =
    let found = c.loop-next.found in
    let place = c.index-place.result.now in
    let test : c.loop-next.next < length found.places.items = omega (arith, c.len.ensures) in
    let inside = read_within found.flags.items found.places.items c.loop-next.next place found.same test c.index-place.ensures in
    let len = c.loop-next.invariant.len in
    let at : slice_get c.args.links.now place ≡ Some c.index-links-place.result = got c.args.links.now place c.index-links-place.result (omega arith) c.index-links-place.is in
    let new = c.add_all-in-loop-next.new.self in
    record {
      len = c.add_all-in-loop-next.ensures.len ∙ len;
      walk =
          walk_turns (map (λ list. list.items) c.args.links.now) c.args.start.now found.flags.items new.flags.items found.places.items new.places.items c.loop-next.next place c.index-links-place.result.items
          test (got found.places.items c.loop-next.next place test c.index-place.ensures) (got_map (λ list. list.items) c.args.links.now place c.index-links-place.result at)
          (read_set found.flags.items found.places.items c.loop-next.next place found.same test c.index-place.ensures)
          (λ other. c.in_ok-add_all-2.ensures.flags other ∙ ap (λ l. listed other l || flag_at found.flags.items other) c.as_slice.ensures.value)
          (c.in_ok-add_all-2.ensures.front (c.loop-next.next + 1) (omega arith)) c.in_ok-add_all-2.ensures.longer c.loop-next.invariant.walk;
    }
