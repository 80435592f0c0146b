use Rattle.std.proofs.Common.{ap, subst, sym, ◌∙◌, ◌<◌, ◌||◌, ℕ, length, Bool}
use Rattle.std.specs.Prelude.{IfSome, Option}
use Rattle.std.specs.BinaryHeap.{heap_items}
use Rattle.std.proofs.lemmas.Result.{on_ok_weaker}
use Rattle.use_line.specs.History.{is_number}
use Rattle.use_line.specs.Known.{IsLinked, is_among}
use Rattle.use_line.specs.Queue.{AddsDue}
use Rattle.use_line.specs.declared.clip.Clip.{Clip}
use Rattle.use_line.proofs.Clips.{all_pushed}
use Rattle.use_line.proofs.Telling.{due_none, due_queued, due_unread, due_writer}
use Rattle.use_line.proofs.ranges.Ranges.tell_part.Goals as goal

pub returns-in_default-clause-due : goal.returns-in_default-clause-due
returns-in_default-clause-due c =
    let u = c.args.self.now in
    let part = c.args.part.now in
    let told = c.args.told.now.items in
    let none = sym c.requires.reader ∙ c.in_default.is in
    let writer = c.requires.writer in
    on_ok_weaker c.tell_writer.result (λ more. due_unread u c.args.own.now part.low part.high c.requires.some c.requires.part c.args.written told c.tell_writer.new.told.items (heap_items c.args.queue.now) none
    (λ j. more j ∙ ap (λ (w : Option ℕ). is_among told j || is_number j w) writer)) c.tell_writer.ensures

pub returns-then-written-clause-filled : goal.returns-then-written-clause-filled
returns-then-written-clause-filled c = λ f. all_pushed (λ (d : Clip). d.low < d.high) _ (heap_items c.args.queue.now) (heap_items c.push.new.self) c.in_ok-push.ensures.permutation c.requires.some f

pub returns-then-written-clause-below : goal.returns-then-written-clause-below
returns-then-written-clause-below c = λ f.
    let u = c.args.self.now in
    let part = c.args.part.now in
    let linked : IsLinked u = subst IsLinked c.self.view_is c.self.invariant in
    let is = sym c.requires.reader ∙ c.in-Some.is in
    all_pushed (λ (d : Clip). d.read < length u.reads) _ (heap_items c.args.queue.now) (heap_items c.push.new.self) c.in_ok-push.ensures.permutation
    (subst (λ (o : Option ℕ). IfSome o (λ k. k < length u.reads)) is (linked.latest part.low)) f

pub returns-then-written-clause-due : goal.returns-then-written-clause-due
returns-then-written-clause-due c =
    let u = c.args.self.now in
    let part = c.args.part.now in
    let q = heap_items c.args.queue.now in
    let told = c.args.told.now.items in
    let linked : IsLinked u = subst IsLinked c.self.view_is c.self.invariant in
    let is = sym c.requires.reader ∙ c.in-Some.is in
    subst (λ (w : Bool). AddsDue u c.args.own.now w part.low part.high told q told (heap_items c.push.new.self)) (sym c.if-written.true)
    (due_queued u c.args.own.now part.low part.high c.requires.some c.requires.part linked c.in-Some.read is told q (heap_items c.push.new.self) c.in_ok-push.ensures.permutation)

pub returns-then-writes-clause-due : goal.returns-then-writes-clause-due
returns-then-writes-clause-due c =
    let u = c.args.self.now in
    let part = c.args.part.now in
    let q = heap_items c.args.queue.now in
    let told = c.args.told.now.items in
    let linked : IsLinked u = subst IsLinked c.self.view_is c.self.invariant in
    let is = sym c.requires.reader ∙ c.in-Some.is in
    subst (λ (w : Bool). AddsDue u c.args.own.now w part.low part.high told q told q) (sym c.if-written.false)
    (due_none u c.args.own.now part.low part.high c.requires.some c.requires.part linked c.in-Some.read is told q (sym c.writes.ensures ∙ c.if-writes.true))

pub returns-clause-due : goal.returns-clause-due
returns-clause-due c =
    let u = c.args.self.now in
    let part = c.args.part.now in
    let q = heap_items c.args.queue.now in
    let told = c.args.told.now.items in
    let new = c.tell_writer-2.new.told.items in
    let linked : IsLinked u = subst IsLinked c.self.view_is c.self.invariant in
    let is = sym c.requires.reader ∙ c.in-Some.is in
    let writer = c.requires.writer in
    on_ok_weaker c.tell_writer-2.result (λ more. subst (λ (w : Bool). AddsDue u c.args.own.now w part.low part.high told q new q) (sym c.if-written.false)
    (due_writer u c.args.own.now part.low part.high c.requires.some c.requires.part linked c.in-Some.read is told new q (sym c.writes.ensures ∙ c.if-writes.false)
    (λ j. more j ∙ ap (λ (w : Option ℕ). is_among told j || is_number j w) writer))) c.tell_writer-2.ensures
