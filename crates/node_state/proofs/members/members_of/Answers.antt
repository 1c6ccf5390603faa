use Rattle.std.proofs.Common.{◌∙◌, ◌+◌, ◌∷◌, drop, is_some, sym, ap, arith}
use Rattle.std.specs.Prelude.{◌||◌}
use Rattle.std.specs.FinMap.{get}
use Rattle.std.specs.Option.{option_or}
use Rattle.std.proofs.lemmas.List.{drop_more}
use Rattle.node_state.specs.Known.{is_used}
use Rattle.node_state.specs.Members.{config_of, member_in}
use Rattle.node_state.proofs.Joining.{none_yet, joined, no_names, name_joined}
use Rattle.node_state.proofs.members.members_of.Goals as goal

pub loop-table-init : goal.loop-table-init
loop-table-init c = record {
  live = none_yet c.args.own c.args.sets.now c.args.tables.now c.new-live.result c.new-live.ensures;
  names = no_names c.args.sets.now c.args.tables.now c.new-names.result c.new-names.ensures;
}

pub loop-table-preserved : goal.loop-table-preserved
loop-table-preserved c =
    let own = c.args.own in
    let sets = c.args.sets.now in
    let tables = c.args.tables.now in
    let n = c.loop-table.table-index in
    let e = c.loop-table-item.result in
    let rest = drop_more tables n e (omega arith) ∙ ap (λ x. x ∷ drop (n + 1) tables) (sym c.loop-table-item.is) in
    let before = c.loop-table.invariant in
    record {
      live = λ name. let old = get c.loop-table.live name in
          joined own sets e (drop (n + 1) tables) name old (get c.add_member.new.members name)
          (c.in_ok-add_member.ensures own sets c.in_ok-leads.ensures name)
          ∙ ap (λ left. option_or old (member_in own (config_of sets left) name)) (sym rest) ∙ before.live name;
      names = λ name. let old = is_some (get c.loop-table.names name) in
          name_joined sets e (drop (n + 1) tables) name c.loop-table.names c.add_name.new.names c.in_ok-add_name.ensures
          ∙ ap (λ left. old || is_used name (config_of sets left)) (sym rest) ∙ before.names name;
    }
