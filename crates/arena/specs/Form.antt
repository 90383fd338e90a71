-- The form that queues run in.
use Rattle.arena.specs.declared.form.Form.{Form}
use Rattle.arena.specs.declared.form.Form.TheVariants.{OfItems}

abbrev pub running : Form
running = OfItems
