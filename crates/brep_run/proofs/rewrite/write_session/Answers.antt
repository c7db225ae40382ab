use Rattle.std.proofs.Common.{◌<◌, ◌^◌, length, ℕ, List, sym, ap, subst, ◌∙◌}
use Rattle.history_text.specs.HistoryText as history_text
use Rattle.location_words.specs.declared.pair.Pair.{Pair}
use Rattle.shape_pool.specs.Laws as pools
use Rattle.shape_pool.specs.Rows.{Row, HasPlaces}
use Rattle.file_loading.specs.Loading.{use_in}
use Rattle.brep_writer.specs.Plans.{plan_text}
use Rattle.brep_writer.specs.WrittenFile.{text_of}
use Rattle.session.specs.Standing.{Stands}
use Rattle.session.specs.States.{State}
use Rattle.written_history.specs.Numbered.{IsInNumbers, NumbersTellHistories}
use Rattle.written_order.specs.Orders.{IsOrderOf}
use Rattle.brep_run.specs.Rewrite.{AreTextsOf, StoppedFor, WrittenFor}
use Rattle.brep_run.proofs.Answered.{IfStopped-weaker, OnDone-weaker}
use Rattle.brep_run.proofs.SessionTexts.{texts-are-due}
use Rattle.brep_run.proofs.rewrite.write_session.Goals as goal

pub history_in_numbers-requires-clause-once : goal.history_in_numbers-requires-clause-once
history_in_numbers-requires-clause-once g c =
    let stands = c.laws.ensures.1 in
    c.orders_list_once.ensures c.args.session.now.words c.root-root.result.id.0 c.in_ok-order.order.numbers
    stands.stocked.loaded.table
    (subst (λ (rows : List Row). HasPlaces rows (length c.args.session.now.words)) (sym c.pool-pool.ensures)
    stands.stocked.loaded.places) c.in_ok-order.ensures

-- what is planned is due of each state for which the session stands
texts : (g : _) (c : goal.After-drop-plan-9 g) (s : State) → Stands c.args.session.now s
    → AreTextsOf c.args.session.now.file s (plan_text c.in_ok-plan.plan) (history_text.text_of c.in_ok-told.told)
texts g c s stands =
    let v = c.args.session.now in
    let root = c.root-root.result in
    let order = c.in_ok-order.order.numbers in
    texts-are-due v s stands
    (subst pools.IsSound c.pool-pool.ensures c.laws-2.ensures)
    (record {
      texts = c.texts_stand_for_roots.ensures;
      renumbering = c.renumbering_keeps_parts.ensures;
      sections = c.sections_hold.ensures;
      numbers = c.numbers_are_places.ensures;
      further = c.further_words_are_due.ensures;
      written = c.roots_are_written.ensures;
    })
    (subst NumbersTellHistories c.pool-pool.ensures c.numbers_tell_histories.ensures)
    (subst (λ (n : ℕ). n < 2 ^ 57) (c.len.ensures.len ∙ ap (λ (ws : List (List Pair)). length ws) c.words-words.ensures)
    c.len.ensures.small)
    root c.root-root.ensures.held (c.root-root.ensures.stands s stands) order
    (subst (λ (rows : List Row). IsOrderOf rows root.id.0 order) c.pool-pool.ensures c.in_ok-order.ensures)
    c.history.result.now c.history.ensures.held (c.history.ensures.tells s stands) c.in_ok-told.told
    (subst (λ (rows : List Row). IsInNumbers rows order c.history.result.now c.in_ok-told.told) c.pool-pool.ensures
    c.in_ok-told.ensures)
    (plan_text c.in_ok-plan.plan)
    (c.in_ok-plan.ensures.text
    ∙ (λ i. text_of (c.file.ensures i) (use_in (c.words-words.ensures i) (c.pool-pool.ensures i) root)
    (c.output.ensures i)))

pub returns-clause-done : goal.returns-clause-done
returns-clause-done g c = λ s stands.
    OnDone-weaker _ (WrittenFor g.D.Desk.tells (g.D.Desk.shows c.args.desk.now) (g.D.Desk.shows c.write_both.new.desk)
    c.args.session.now.file s c.args.target.now c.args.history.now)
    (λ both. (plan_text c.in_ok-plan.plan, history_text.text_of c.in_ok-told.told, texts g c s stands, both))
    c.write_both.result c.write_both.ensures.done

pub returns-clause-stopped : goal.returns-clause-stopped
returns-clause-stopped g c = λ s stands.
    IfStopped-weaker _ (StoppedFor g.D.Desk.tells (g.D.Desk.shows c.args.desk.now)
    (g.D.Desk.shows c.write_both.new.desk) c.args.session.now.file s c.args.target.now c.args.history.now)
    (λ file taken one. (plan_text c.in_ok-plan.plan, history_text.text_of c.in_ok-told.told, texts g c s stands, one))
    c.write_both.result c.write_both.ensures.stopped
