mod Names
mod Numbers
