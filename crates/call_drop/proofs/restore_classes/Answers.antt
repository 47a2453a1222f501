use Rattle.call_drop.proofs.RestoreLaws.{no_class_restored, touched_class_restored, untouched_class_restored, all_classes_restored}
use Rattle.call_drop.proofs.restore_classes.Goals as goal
use Rattle.call_drop.proofs.restore_classes.Goals.{then-touched-class, else-touched-class}

pub loop-class-init : goal.loop-class-init
loop-class-init c = search no_class_restored

pub loop-class-preserved : goal.loop-class-preserved
loop-class-preserved c =
    elim c.if-touched-class.branch [ then-touched-class w ↦ search touched_class_restored | else-touched-class w ↦ search untouched_class_restored ]

pub returns : goal.returns
returns c = search all_classes_restored
