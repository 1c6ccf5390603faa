use Rattle.std.proofs.Common.{◌≡◌, ◌++◌, take, drop, length, get_or, List, Some, ap, ◌∙◌, arith, rules}
use Rattle.std.proofs.lemmas.Grind.{common_steps}
use Rattle.std.specs.FinMap.{empty, entries}
use Rattle.slon_base.specs.Keeper.{Space, Store, sight, first, after}
use Rattle.node_keeper.specs.Told.{kept_of}
use Rattle.node_keeper.proofs.Kepts.{seen_in}
use Rattle.node_keeper.proofs.mem_keeper.MemKeeperKeeper.next_after.Goals as goal

pub returns : goal.returns
returns c =
    let spaces = c.strikes.new.self.spaces in
    let read = c.next_in.new.spaces in
    let whole : take spaces.len (read ++ drop (length read) spaces.items) ≡ spaces.items =
    let lent = c.as_mut_slice.ensures in
    grind (arith, common_steps, c.in_ok-next_in.ensures.same, lent.value, lent.len) in
    let same : take spaces.len (read ++ drop (length read) spaces.items) ≡ c.args.self.now.spaces.items =
    whole ∙ c.if-strikes.ensures.spaces in
    let gives : (m : Store) → sight (kept_of c.args.self.now) ≡ Some m →
    c.in_ok-next_in.field-0 ≡ first (after c.args.key.now (entries (m c.args.space))) =
    λ m e. c.in_ok-next_in.ensures.next
    ∙ ap (λ s. first (after c.args.key.now (entries s))) (seen_in c.args.self.now spaces.items c.args.space
    (get_or c.as_mut_slice.result.now c.args.space (empty, empty))
    (ap (λ (xs : List (Space × Space)). get_or xs c.args.space (empty, empty)) c.as_mut_slice.ensures.value)
    c.if-strikes.ensures.spaces m e) in
    search (rules, gives, same)
