-- What a poll comes to at the two databases that it concerns, refusal by refusal.
use Rattle.std.proofs.Common.{◌≡◌, ◌∙◌, ℕ, true, false, List, None, Err, refl, sym, ap, subst}
use Rattle.slon_model.specs.declared.fault.DbFault.{DbFault}
use Rattle.slon_model.specs.declared.reply.Refusal.{Refusal}
use Rattle.slon_model.specs.declared.reply.Refusal.TheVariants as refused
use Rattle.slon_model.specs.declared.reply.Reply.{Reply}
use Rattle.slon_model.specs.declared.reply.Reply.TheVariants as replied
use Rattle.slon_model.specs.Deeds.{Node}
use Rattle.slon_model.specs.Sessions.{seat}
use Rattle.slon_model.specs.Turns.{is_cut}
use Rattle.slon_model.specs.Polls.{is_empty, hears_none}
use Rattle.slon_model.specs.World.{refusal_of}
use Rattle.set_config.proofs.Entries.{not_eq}
use Rattle.event_store.specs.declared.queue.Queue.{Queue}
use Rattle.app_store.specs.Base.{Base}
use Rattle.app_store.specs.Fits.{Fits}
use Rattle.app_store.specs.Parts.{FellTo, Fell}
use Rattle.node_store.specs.Acting.{Acts}
use Rattle.node_store.specs.Joining.{Pair}
use Rattle.remote_listener.specs.Asking.{wants_of}
use Rattle.slonik_exec.specs.Stored.{Couple}
use Rattle.slonik_exec.proofs.Asking.{one_place}
use Rattle.slonik_exec.proofs.Seats.{same_up}
use Rattle.slonik_exec.proofs.Telling.{words_at}
use Rattle.slonik_exec.proofs.Trying.{tried_none}
use Rattle.slon_turns.specs.declared.polling.Listen.{Listen}
use Rattle.slon_turns.specs.Polling.{ListensAt, Meeting, due_in, ListensBetween, AtOwn, AtServer, brought_if}
use Rattle.slon_turns.proofs.Answered.{wants_none, wants_some}
use Rattle.slon_turns.proofs.Due.{Asking, IsLinked, IsServing, unlisted, severed, down, serving}
use Rattle.slon_turns.proofs.Listens.{refused_listens}

-- a database that nothing was done with
pub acts_none : (b : Base) → Acts None b b
acts_none b = record { tries = (tried_none true b).tries; quiet = λ calm n up. up }

-- a poll under the rules
abbrev pub asking : {l : Listen} {old : Couple} {queue : Queue} → Meeting l old queue → Asking
asking {l} {old} m =
    record {
      server = l.server;
      memory = m.spot.memory;
      seat = seat m.spot.name m.spot.place m.node;
      found = (old.names.to, m.server);
    }

-- What was looked up at the node: what it wants of the server.
pub record Wanted {l : Listen} {old : Couple} {queue : Queue} (m : Meeting l old queue) (new : Base) : Type 0 where
  pub wants : List (ℕ × ℕ)
  pub are : wants ≡ wants_of l.server queue m.node
  pub fits : Fits m.spot.place new

-- it is refused, and both databases are as they were
refuses_both : {l : Listen} {old : Couple} {queue : Queue} (m : Meeting l old queue) (refusal : Refusal) (new : Base) →
    due_in m ≡ Err refusal → Fits m.spot.place new →
    ListensBetween m.spot (old.names.to, m.server) (due_in m) (replied.Refused refusal)
    (record { from = new; to = old.bases.to }) queue
refuses_both {queue = queue} m refusal new is fits =
    AtOwn (refused_listens m.spot (due_in m) refusal new queue is fits m.fits.waits) m.ready.fits

pub lists_none : {l : Listen} {old : Couple} {queue : Queue} (m : Meeting l old queue) (new : Base)
    (w : Wanted m new) → is_empty w.wants ≡ true →
    ListensBetween m.spot (old.names.to, m.server) (due_in m) (replied.Refused (refused.NotListed l.server))
    (record { from = new; to = old.bases.to }) queue
lists_none {l} {queue = queue} m new w none =
    refuses_both m (refused.NotListed l.server) new
    (unlisted (asking m) (wants_none (asking m) queue w.wants w.are refl none)) w.fits

-- the node hears of an origin at the server, which is another node
pub record Listed {l : Listen} {old : Couple} {queue : Queue} (m : Meeting l old queue) (new : Base) : Type 0 where
  pub wanted : Wanted m new
  pub some : is_empty wanted.wants ≡ false
  pub apart : l.server ≡ l.node → ⊥

lists_some : {l : Listen} {old : Couple} {queue : Queue} (m : Meeting l old queue) (new : Base) → Listed m new →
    hears_none l.server (seat m.spot.name m.spot.place m.node) ≡ false
lists_some {l} {queue = queue} m new li =
    wants_some (asking m) queue li.wanted.wants li.wanted.are refl li.some
    (not_eq l.server m.node.id (λ same. li.apart (same ∙ m.own)))

pub cut_between : {l : Listen} {old : Couple} {queue : Queue} (m : Meeting l old queue) (new : Base) → Listed m new →
    l.cut ≡ true →
    ListensBetween m.spot (old.names.to, m.server) (due_in m) (replied.Refused (refused.Severed l.node l.server))
    (record { from = new; to = old.bases.to }) queue
cut_between {l} m new li cut =
    refuses_both m (refused.Severed l.node l.server) new
    (severed (asking m) (lists_some m new li)
    (ap (λ k. is_cut k l.server m.spot.memory) m.own ∙ m.cut ∙ cut)
    ∙ ap (λ k. Err (refused.Severed k l.server)) m.own) li.wanted.fits

-- and it is not cut off
pub is_linked : {l : Listen} {old : Couple} {queue : Queue} (m : Meeting l old queue) (new : Base) → Listed m new →
    l.cut ≡ false → IsLinked (asking m)
is_linked {l} m new li joined = record {
  some = lists_some m new li;
  joined = ap (λ k. is_cut k l.server m.spot.memory) m.own ∙ m.cut ∙ joined;
}

pub server_down : {l : Listen} {old : Couple} {queue : Queue} (m : Meeting l old queue) (new : Base)
    (database : List ℕ) → (li : Listed m new) → (l.cut ≡ false) × (old.bases.to.memory.up ≡ false) →
    database ≡ old.names.to →
    ListensBetween m.spot (old.names.to, m.server) (due_in m) (replied.Refused (refused.Down database))
    (record { from = new; to = old.bases.to }) queue
server_down {l} {old} {queue} m new database li (joined, fell) is =
    subst (λ d. ListensBetween m.spot (old.names.to, m.server) (due_in m) (replied.Refused (refused.Down d))
    (record { from = new; to = old.bases.to }) queue) (sym is)
    (refuses_both m (refused.Down old.names.to) new
    (down (asking m) (is_linked m new li joined) (sym (same_up m.server old.bases.to m.ready.fits) ∙ fell))
    li.wanted.fits)

-- the store of the server failed
pub server_breaks : {l : Listen} {old : Couple} {queue : Queue} {fault : DbFault} {reply : Reply}
    (m : Meeting l old queue)
    (new : Pair) → FellTo m.server m.server fault new.to →
    (reply ≡ refusal_of (words_at old.names.to) fault) × (old.bases.to.memory.up ≡ true) → Fits m.spot.place new.from →
    ListensBetween m.spot (old.names.to, m.server) (due_in m) reply new queue
server_breaks {old = old} m new (Fell count stands is rose fell) (told, up) fits =
    AtServer count (told ∙ ap (refusal_of (words_at old.names.to)) is)
    (sym (same_up m.server old.bases.to m.ready.fits) ∙ up, rose) (one_place m.server count stands new.to fell) fits
    m.fits.waits

-- the server answered
pub server_answers : {l : Listen} {old : Couple} {queue : Queue} {reply : Reply} (m : Meeting l old queue)
    (server : Node) (new : Pair) (left : Queue) → IsServing (asking m) server →
    ListensAt m.spot (brought_if m.spot m.node (seat old.names.to m.server server)) reply new.from left →
    Fits m.server new.to → ListensBetween m.spot (old.names.to, m.server) (due_in m) reply new left
server_answers {reply = reply} m server new left serves listens fits =
    AtOwn (subst (λ due. ListensAt m.spot due reply new.from left) (sym (serving (asking m) server serves))
    listens) fits
