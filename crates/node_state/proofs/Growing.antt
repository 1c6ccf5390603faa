-- What a commit adds to the log of a node.
use Rattle.std.proofs.Common.{◌≡◌, ℕ, ◌<◌, ◌^◌, true, false, cond, List, [], ◌∷◌, ◌++◌, map, Option, Some, None}
use Rattle.std.proofs.Common.{refl, sym, ap, subst, ◌∙◌}
use Rattle.std.specs.Prelude.{◌==◌, filter_map}
use Rattle.std.specs.List.{AllByRecursion}
use Rattle.std.specs.Option.{option_map}
use Rattle.std.specs.FinMap.{get}
use Rattle.std.proofs.lemmas.Bool.{eqb-true, false_from_ne_true, true≢false}
use Rattle.std.proofs.lemmas.List.{map-append, append_assoc}
use Rattle.std.proofs.lemmas.List.Elements.{filter_map-append}
use Rattle.slon_base.specs.Keeper.{Store}
use Rattle.node_rows.specs.declared.rows.TableRow.{TableRow}
use Rattle.change_capture.specs.declared.log_row.LogRow.{LogRow}
use Rattle.change_capture.specs.Spellings.{CanLogRow}
use Rattle.change_capture.specs.Capture.{log_row}
use Rattle.slon_model.specs.Rows.{Action}
use Rattle.slon_model.specs.Config.{member_of, is_origin}
use Rattle.slon_model.specs.Deeds.{Node, knowledge}
use Rattle.slon_model.specs.Logs.{logged_on, own_logs, logged}
use Rattle.log_switch.specs.Holds.{Logged as Item, HoldsLog, put_logs, logged_more}
use Rattle.log_switch.proofs.Logging.{holds_more, others_stay}
use Rattle.node_state.specs.Held.{NodeHeld, action_as, item_of, items_of, captured_all, is_of_node}
use Rattle.node_state.specs.declared.memory.Members.{Members}
use Rattle.node_state.specs.Known.{member_as, logged_as, log_rows_of}
use Rattle.slon_model.specs.Place.{Place, own_actions}
use Rattle.slon_model.specs.Moves.{with_commit}
use Rattle.node_state.proofs.Staying.{AreSame, AreNear, config_stays, streams_stay, node_stays}

more-append : (origin : ℕ) (xs ys : List (ℕ × LogRow)) (items : List Item) →
    logged_more origin (xs ++ ys) items ≡ logged_more origin ys (logged_more origin xs items)
more-append origin [] ys items = refl
more-append origin (x ∷ xs) ys items =
    more-append origin xs ys (record { origin = origin; number = x.0; row = x.1 } ∷ items)

-- the actions are of this transaction
abbrev pub AreOf : ℕ → List Action → Type 0
AreOf xid actions = AllByRecursion (λ a. (a.xid == xid) ≡ true) actions

-- one action adds what the rules say that it logs
one_more : (n : Node) (members : Members) (xid : ℕ) (a : Action) (items : List Item) → (a.xid == xid) ≡ true →
    get members.live a.table
    ≡ option_map (member_as n.id (knowledge n).config) (member_of a.table (knowledge n).config) →
    logged_more n.id (log_rows_of members xid (action_as a ∷ [])) items
    ≡ items_of (own_logs n.id (knowledge n) (a ∷ [])) ++ items
one_more n members xid a items of is =
    ap (λ o. logged_more n.id (filter_map (λ b. logged_as xid b o) (action_as a ∷ [])) items) is
    ∙ by (member_of a.table (knowledge n).config)
  where
    by : (o : Option (ℕ × TableRow)) →
        logged_more n.id (filter_map (λ b. logged_as xid b (option_map (member_as n.id (knowledge n).config) o))
        (action_as a ∷ [])) items
        ≡ items_of (filter_map (λ b. logged_on n.id (knowledge n) b o) (a ∷ [])) ++ items
    by None = refl
    by (Some e) =
        elim (is_origin n.id e.1.set_id (knowledge n).config) as (λ t. logged_more n.id
        (filter_map (λ b. cond t (Some (b.number, log_row xid e.0 b)) None) (action_as a ∷ [])) items
        ≡ items_of (filter_map (λ (b : Action). cond t (Some (record {
          set_id = e.1.set_id;
          table_id = e.0;
          era = Rattle.slon_model.specs.Config.era_of e.1.set_id (knowledge n).config;
          origin = n.id;
          action = b;
        })) None) (a ∷ [])) ++ items) [
          | true ↦ ap (λ x. record { origin = n.id; number = a.number; row = log_row x e.0 (action_as a) } ∷ items)
              (sym (eqb-true a.xid xid of))
          | false ↦ refl
        ]

-- and so do all actions of a transaction
pub all_more : (n : Node) (members : Members) (xid : ℕ) (actions : List Action) (items : List Item) →
    AreOf xid actions →
    ((name : List ℕ) → get members.live name
    ≡ option_map (member_as n.id (knowledge n).config) (member_of name (knowledge n).config)) →
    logged_more n.id (log_rows_of members xid (captured_all actions)) items
    ≡ items_of (own_logs n.id (knowledge n) actions) ++ items
all_more n members xid [] items of known = refl
all_more n members xid (a ∷ actions) items of known =
    ap (λ rows. logged_more n.id rows items)
    (filter_map-append (λ b. logged_as xid b (get members.live b.table)) (captured_all actions) (action_as a ∷ []))
    ∙ more-append n.id (log_rows_of members xid (captured_all actions)) _ items
    ∙ one_more n members xid a _ of.0 (known a.table)
    ∙ ap (λ is. items_of (own_logs n.id (knowledge n) (a ∷ [])) ++ is) (all_more n members xid actions items of.1 known)
    ∙ sym (append_assoc (items_of (own_logs n.id (knowledge n) (a ∷ [])))
    (items_of (own_logs n.id (knowledge n) actions)) items)
    ∙ ap (λ is. is ++ items)
    (sym (map-append item_of (own_logs n.id (knowledge n) (a ∷ [])) (own_logs n.id (knowledge n) actions))
    ∙ ap (map item_of) (sym (filter_map-append
    (λ b. logged_on n.id (knowledge n) b (member_of b.table (knowledge n).config)) (a ∷ []) actions)))

-- A commit that logs these rows, and what it leaves in the spaces of the node.
pub record Grows (n : Node) (xid : ℕ) (p : Place) (m new : Store) : Type 0 where
  pub rows : List (ℕ × LogRow)
  pub can : AllByRecursion (λ r. (r.0 < 2 ^ 63) × CanLogRow r.1) rows
  pub logs : logged_more n.id rows (items_of (logged n))
      ≡ items_of (own_logs n.id (knowledge n) (own_actions xid p)) ++ items_of (logged n)
  pub same : AreSame (put_logs n.id rows m) new

-- the node with one more deed
pub node_grows : {n : Node} {xid : ℕ} {p : Place} {m new : Store} → Grows n xid p m new → NodeHeld n m →
    NodeHeld (with_commit xid p n) new
node_grows {n} {xid} {p} {m} {new} g held =
    node_stays (Some (with_commit xid p n)) (put_logs n.id g.rows m) new g.same (record {
      id = held.id;
      cluster = held.cluster;
      config = config_stays (knowledge n).config m _ near held.config;
      orderly = held.orderly;
      homes = held.homes;
      self = held.self;
      met = held.met;
      streams = streams_stay _ m _ near held.streams;
      log = subst (λ items. HoldsLog items (put_logs n.id g.rows m))
          (g.logs ∙ sym (map-append item_of (own_logs n.id (knowledge n) (own_actions xid p)) (logged n)))
          (holds_more n.id g.rows (items_of (logged n)) m held.id g.can held.log);
      status = held.status;
      behind = held.behind;
      regular = held.regular;
      spare = λ space other spare. others_stay n.id g.rows m space (not_log space spare)
          ∙ held.spare space other spare;
    })
  where
    near : AreNear m (put_logs n.id g.rows m)
    near space other not_log = others_stay n.id g.rows m space not_log

    not_log : (space : ℕ) → is_of_node space ≡ false → (space == 15) ≡ false
    not_log space spare =
        false_from_ne_true (space == 15) (λ is. true≢false (sym (ap is_of_node (eqb-true space 15 is)) ∙ spare))
